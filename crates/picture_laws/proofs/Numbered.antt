-- After a run no report is of an actor, and no token of a number, beyond those that were made and opened.
use Rattle.std.proofs.Common.{◌<◌, ◌≤◌, ◌==◌, ℕ, suc, Bool, true, false, not, cond, nat_lt, if◌then◌else◌, List, [], ◌∷◌, ◌++◌, filter, length, map, refl, subst, arith}
use Rattle.std.specs.Prelude.{⊤}
use Rattle.std.specs.List.{AllByRecursion}
use Rattle.orca_names.specs.declared.trace.Trace.{Trace}
use Rattle.event_rule.specs.Runs.{Leads}
use Rattle.event_rule.specs.declared.event.Event.{Event}
use Rattle.letter_kinds.specs.Detector.{Detector, Token, after_scan, close_token, closed_set, has, hear_note, note_ack}
use Rattle.letter_kinds.specs.Reports.{keep_report, report_told}
use Rattle.letter_kinds.specs.Letters.{Letter, Confirm}
use Rattle.letter_kinds.specs.declared.note.Note.{Note}
use Rattle.letter_kinds.specs.declared.note.Note.TheVariants.{Block, Unblock, Ack}
use Rattle.letter_kinds.specs.declared.note.Report.{Report}
use Rattle.machine_rules.proofs.Present.{present_below}
use Rattle.machine_rules.proofs.Stepping.{step_of}
use Rattle.machine_rules.specs.Next.{next}
use Rattle.machine_rules.specs.Rules.{IsStep}
use Rattle.machine_rules.specs.Rules as rule
use Rattle.machine_rules.specs.State.{State}
use Rattle.machine_rules.specs.Take.{note_of, notes_after}
use Rattle.count_laws.proofs.bounds.Bounding.{leads_room}

module _ {A : Type 0} (P : A → Type 0) where
  all_push : (xs : List A) (x : A) → AllByRecursion P xs → P x → AllByRecursion P (xs ++ x ∷ [])
  all_push [] x h new = (new, tt)
  all_push (y ∷ xs) x h new = (h.0, all_push xs x h.1 new)

  all_filter : (keep : A → Bool) (xs : List A) → AllByRecursion P xs → AllByRecursion P (filter keep xs)
  all_filter keep [] h = tt
  all_filter keep (x ∷ xs) h = elim (keep x) as (λ b. AllByRecursion P (cond b (x ∷ filter keep xs) (filter keep xs))) [
    | true ↦ (h.0, all_filter keep xs h.1)
    | false ↦ all_filter keep xs h.1
  ]

-- ---- the detector

-- it is of an actor that may be made
abbrev IsOfSome : Report → Type 0
IsOfSome r = r.actor < 65536

abbrev IsOpened : ℕ → Token → Type 0
IsOpened opened t = t.number ≤ opened

pub record AreNumbered (d : Detector) : Type 0 where
  pub kept : AllByRecursion IsOfSome d.kept
  pub tokens : AllByRecursion (IsOpened d.opened) d.tokens

abbrev TellsSome : Note → Type 0
TellsSome (Block a count held) = a < 65536
TellsSome (Unblock a) = ⊤
TellsSome (Ack token a) = ⊤

all_kept : (r : Report) (rs : List Report) → IsOfSome r → AllByRecursion IsOfSome rs → AllByRecursion IsOfSome (keep_report r rs)
all_kept r [] new h = (new, tt)
all_kept r (k ∷ ks) new h = elim (r.actor == k.actor) as (λ b. AllByRecursion IsOfSome (if b then r ∷ ks else (if nat_lt r.actor k.actor then r ∷ (k ∷ ks) else k ∷ keep_report r ks))) [
  | true ↦ (new, h.1)
  | false ↦ elim (nat_lt r.actor k.actor) as (λ b. AllByRecursion IsOfSome (if b then r ∷ (k ∷ ks) else k ∷ keep_report r ks)) [
    | true ↦ (new, h)
    | false ↦ (h.0, all_kept r ks new h.1)
  ]
]

all_noted : (number a opened : ℕ) (ts : List Token) → AllByRecursion (IsOpened opened) ts → AllByRecursion (IsOpened opened) (map (note_ack number a) ts)
all_noted number a opened [] h = tt
all_noted number a opened (t ∷ ts) h = (h.0, all_noted number a opened ts h.1)

one_opened : (opened : ℕ) (ts : List Token) → AllByRecursion (IsOpened opened) ts → AllByRecursion (IsOpened (suc opened)) ts
one_opened opened [] h = tt
one_opened opened (t ∷ ts) h = (omega (arith, h.0), one_opened opened ts h.1)

heard : (n : Note) (d : Detector) → TellsSome n → AreNumbered d → AreNumbered (hear_note n d)
heard (Block a count held) d some h = record { kept = all_kept (report_told a count held) d.kept some h.kept; tokens = h.tokens }
heard (Unblock a) d some h = record {
  kept = all_filter IsOfSome (λ k. not (k.actor == a)) d.kept h.kept;
  tokens = all_filter (IsOpened d.opened) (λ t. not (has t.members a)) d.tokens h.tokens;
}
heard (Ack number a) d some h = record { kept = h.kept; tokens = all_noted number a d.opened d.tokens h.tokens }

scanned : (d : Detector) (found : List ℕ) → AreNumbered d → AreNumbered (after_scan d found)
scanned d [] h = record { kept = h.kept; tokens = h.tokens }
scanned d (m ∷ ms) h = record {
  kept = h.kept;
  tokens = all_push (IsOpened (suc d.opened)) d.tokens (record { number = suc d.opened; members = m ∷ ms; acked = [] })
      (one_opened d.opened d.tokens h.tokens) (omega arith);
}

closed : (t : Token) (d : Detector) → AreNumbered d → AreNumbered (close_token t d)
closed t d h = record {
  kept = all_filter IsOfSome (λ r. not (has t.members r.actor)) d.kept h.kept;
  tokens = all_filter (IsOpened d.opened) (λ u. not (u.number == t.number)) d.tokens h.tokens;
}

-- ---- an event

pub record IsNumbered (s : State) : Type 0 where
  pub detector : AreNumbered s.detector
  pub notes : AllByRecursion TellsSome s.notes

after_note : (reported : Bool) (n : Note) (ns : List Note) → TellsSome n → AllByRecursion TellsSome ns → AllByRecursion TellsSome (notes_after reported n ns)
after_note true n ns some h = all_push TellsSome ns n h some
after_note false n ns some h = h

of_letter : (a : ℕ) (l : Letter) → TellsSome (note_of a l)
of_letter a (Confirm token) = tt
of_letter a l = tt

keeps : (trace : Trace) (s : State) {e : Event} {t : State} → IsStep trace s e t → length s.actors ≤ 65536 → IsNumbered s → IsNumbered t
keeps trace s (rule.takes a c l mail at is) room h =
    record { detector = h.detector; notes = after_note c.reported (note_of a l) s.notes (of_letter a l) h.notes }
keeps trace s (rule.blocks a c mail at may) room h =
    record { detector = h.detector; notes = all_push TellsSome s.notes _ h.notes (omega (arith, room, present_below s.actors a _ at)) }
keeps trace s (rule.hears note later is) room h =
    let notes = subst (AllByRecursion TellsSome) is h.notes in
    record { detector = heard note s.detector notes.0 h.detector; notes = notes.1 }
keeps trace s (rule.scans news) room h = record { detector = scanned s.detector (closed_set s.detector) h.detector; notes = h.notes }
keeps trace s (rule.reaps number token is) room h = record { detector = closed token s.detector h.detector; notes = h.notes }
keeps trace s step room h = record { detector = h.detector; notes = h.notes }

pub leads_numbered : (book : List Event) (s t : State) → Leads next s book t → length s.actors ≤ 65536 → IsNumbered s → IsNumbered t
leads_numbered [] s t same room h = subst IsNumbered same h
leads_numbered (e ∷ book) s t (u, goes, leads) room h =
    leads_numbered book u t leads (leads_room (e ∷ []) s u (u, goes, refl) room) (keeps s.options.trace s (step_of s u e goes) room h)
