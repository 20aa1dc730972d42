-- What notes and kept reports tell was counted when it was told, so it is no more than what is counted at most.
use Rattle.std.proofs.Common.{◌≡◌, ℕ, ◌*◌, ◌≤◌, ◌==◌, Bool, true, false, not, cond, nat_lt, List, [], ◌∷◌, ◌++◌, length, filter, sym, subst, arith}
use Rattle.std.specs.List.{AllByRecursion}
use Rattle.std.specs.Prelude.{if◌then◌else◌}
use Rattle.std.proofs.lemmas.List.Sums.{sum_by-cons}
use Rattle.orca_names.specs.declared.names.Thing.TheVariants.{Actor}
use Rattle.event_rule.specs.declared.event.Event.{Event}
use Rattle.letter_kinds.proofs.Sums.{sum-nil}
use Rattle.letter_kinds.specs.Detector.{Detector, closed_set, has, hear_note, after_scan}
use Rattle.letter_kinds.specs.Holdings.{held_in}
use Rattle.letter_kinds.specs.Reports.{count_on, keep_report, report_told, told_on, told_on_by}
use Rattle.letter_kinds.specs.Letters.{Letter, App}
use Rattle.letter_kinds.specs.declared.note.Note.{Note}
use Rattle.letter_kinds.specs.declared.note.Note.TheVariants.{Block, Unblock, Ack}
use Rattle.letter_kinds.specs.declared.note.Report.{Report}
use Rattle.machine_rules.proofs.Stepping.{step_of}
use Rattle.machine_rules.specs.Rules.{IsStep}
use Rattle.machine_rules.specs.Rules as rule
use Rattle.machine_rules.specs.Actors.{seat, seat_at}
use Rattle.machine_rules.specs.Block.{held_actors}
use Rattle.machine_rules.specs.Cell.{Cell}
use Rattle.event_rule.specs.Runs.{Goes}
use Rattle.machine_rules.specs.Next.{next}
use Rattle.orca_names.specs.declared.trace.Trace.{Trace}
use Rattle.machine_rules.specs.State.{State}
use Rattle.machine_rules.specs.Take.{note_of, notes_after}
use Rattle.machine_laws.proofs.HeldActors.{count_on-held_actors}
use Rattle.machine_laws.specs.Bounds.{OfEachTold, OfNote, OfTold}

module _ (P : ℕ → Type 0) where
  -- ---- lists

  all_push : (ns : List Note) (n : Note) → AllByRecursion (OfNote P) ns → OfNote P n → AllByRecursion (OfNote P) (ns ++ n ∷ [])
  all_push [] n h new = (new, tt)
  all_push (m ∷ ns) n h new = (h.0, all_push ns n h.1 new)

  all_filter : (keep : Report → Bool) (rs : List Report) → AllByRecursion (OfEachTold P) rs → AllByRecursion (OfEachTold P) (filter keep rs)
  all_filter keep [] h = tt
  all_filter keep (r ∷ rs) h = elim (keep r) as (λ b. AllByRecursion (OfEachTold P) (cond b (r ∷ filter keep rs) (filter keep rs))) [
    | true ↦ (h.0, all_filter keep rs h.1)
    | false ↦ all_filter keep rs h.1
  ]

  all_kept : (r : Report) (rs : List Report) → OfEachTold P r → AllByRecursion (OfEachTold P) rs → AllByRecursion (OfEachTold P) (keep_report r rs)
  all_kept r [] new h = (new, tt)
  all_kept r (k ∷ ks) new h = elim (r.actor == k.actor) as (λ b. AllByRecursion (OfEachTold P) (if b then r ∷ ks else (if nat_lt r.actor k.actor then r ∷ (k ∷ ks) else k ∷ keep_report r ks))) [
    | true ↦ (new, h.1)
    | false ↦ elim (nat_lt r.actor k.actor) as (λ b. AllByRecursion (OfEachTold P) (if b then r ∷ (k ∷ ks) else k ∷ keep_report r ks)) [
      | true ↦ (new, h)
      | false ↦ (h.0, all_kept r ks new h.1)
    ]
  ]

  -- ---- what the detector makes of it

  told_heard : (n : Note) (d : Detector) → OfNote P n → AllByRecursion (OfEachTold P) d.kept → AllByRecursion (OfEachTold P) (hear_note n d).kept
  told_heard (Block a count held) d new h = all_kept (report_told a count held) d.kept new h
  told_heard (Unblock a) d new h = all_filter (λ k. not (k.actor == a)) d.kept h
  told_heard (Ack number a) d new h = h

  told_scanned : (d : Detector) (found : List ℕ) → AllByRecursion (OfEachTold P) d.kept → AllByRecursion (OfEachTold P) (after_scan d found).kept
  told_scanned d [] h = h
  told_scanned d (a ∷ found) h = h

  told_note : (a : ℕ) (l : Letter) → OfNote P (note_of a l)
  told_note a (App behaviour args load rows) = tt
  told_note a l = tt

  told_after : (reported : Bool) (n : Note) (ns : List Note) → OfNote P n → AllByRecursion (OfNote P) ns → AllByRecursion (OfNote P) (notes_after reported n ns)
  told_after true n ns new h = all_push ns n h new
  told_after false n ns new h = h

  -- ---- each event, where it holds of what the actors count

  abbrev Counts : State → Type 0
  Counts s = (a : ℕ) (c : Cell) (mail : List Letter) → seat_at s.actors a ≡ seat c mail → P c.holdings.count × ((x : ℕ) → P (held_in c.holdings (Actor x)))

  abbrev Tells : State → Event → State → Type 0
  Tells s e t = Counts s → OfTold P s → OfTold P t

  tells : (trace : Trace) (s : State) {e : Event} {t : State} → IsStep trace s e t → Tells s e t
  tells trace s (rule.takes a c l mail at is) counts h = record { notes = told_after c.reported (note_of a l) s.notes (told_note a l) h.notes; kept = h.kept }
  tells trace s (rule.blocks a c mail at may) counts h =
      let z = counts a c mail at in
      record {
        notes = all_push s.notes (Block a c.holdings.count (held_actors c.holdings)) h.notes
            (record { count = z.0; held = λ x. subst P (sym (count_on-held_actors c.holdings x)) (z.1 x) });
        kept = h.kept;
      }
  tells trace s (rule.hears note later is) counts h =
      let ns : AllByRecursion (OfNote P) (note ∷ later) = subst (AllByRecursion (OfNote P)) is h.notes in
      record { notes = ns.1; kept = told_heard note s.detector ns.0 h.kept }
  tells trace s (rule.scans news) counts h = record { notes = h.notes; kept = told_scanned s.detector (closed_set s.detector) h.kept }
  tells trace s (rule.reaps number token is) counts h = record { notes = h.notes; kept = all_filter (λ r. not (has token.members r.actor)) s.detector.kept h.kept }
  tells trace s is counts h = record { notes = h.notes; kept = h.kept }

  pub event_tells : (s t : State) (e : Event) → next s e ≡ Goes t → Counts s → OfTold P s → OfTold P t
  event_tells s t e goes = tells s.options.trace s (step_of s t e goes)

-- ---- a weaker claim

all_weaker : (P Q : ℕ → Type 0) → ((n : ℕ) → P n → Q n) → (ns : List Note) → AllByRecursion (OfNote P) ns → AllByRecursion (OfNote Q) ns
all_weaker P Q f [] h = tt
all_weaker P Q f (Block a count held ∷ ns) h = (record { count = f _ h.0.count; held = λ x. f _ (h.0.held x) }, all_weaker P Q f ns h.1)
all_weaker P Q f (Unblock a ∷ ns) h = (tt, all_weaker P Q f ns h.1)
all_weaker P Q f (Ack token a ∷ ns) h = (tt, all_weaker P Q f ns h.1)

reports_weaker : (P Q : ℕ → Type 0) → ((n : ℕ) → P n → Q n) → (rs : List Report) → AllByRecursion (OfEachTold P) rs → AllByRecursion (OfEachTold Q) rs
reports_weaker P Q f [] h = tt
reports_weaker P Q f (r ∷ rs) h = (record { count = f _ h.0.count; held = λ x. f _ (h.0.held x) }, reports_weaker P Q f rs h.1)

pub told_weaker : (P Q : ℕ → Type 0) (s : State) → ((n : ℕ) → P n → Q n) → OfTold P s → OfTold Q s
told_weaker P Q s f h = record { notes = all_weaker P Q f s.notes h.notes; kept = reports_weaker P Q f s.detector.kept h.kept }

-- ---- all reports together

told_one : (x : ℕ) (r : Report) (bound : ℕ) → count_on r.held x ≤ bound → told_on x r ≤ bound
told_one x r bound h = elim (r.actor == x) as (λ b. (if b then 0 else count_on r.held x) ≤ bound) [ true ↦ omega arith | false ↦ h ]

pub told_by_all : (x bound : ℕ) (rs : List Report) → AllByRecursion (OfEachTold (λ n. n ≤ bound)) rs → told_on_by x rs ≤ length rs * bound
told_by_all x bound [] h = let z = sum-nil (told_on x) in omega arith
told_by_all x bound (r ∷ rs) h =
    let one = told_one x r bound (h.0.held x) in
    let more = told_by_all x bound rs h.1 in
    let s = sum_by-cons (told_on x) r rs in
    omega arith
