-- Whoever is reaped together is closed by the numbers that were kept.
use Rattle.std.proofs.Common.{◌≡◌, ◌≢◌, ◌<◌, ◌==◌, ℕ, zero, suc, true, false, List, [], ◌∷◌, Option, Some, None, Contains, refl, sym, ap, subst, ◌∙◌, ⊎_elim, ne_eqb, eq-eqb, arith}
use Rattle.std.specs.Prelude.{All, IfSome, sum_by, option_map}
use Rattle.std.specs.List.{AllByRecursion, IsDistinct, cons_option}
use Rattle.std.proofs.lemmas.Bool.{cases_eq}
use Rattle.std.proofs.lemmas.List.Elements.{All-from_recursion}
use Rattle.std.proofs.lemmas.List.Sums.{sum_by-cons}
use Rattle.std.proofs.lemmas.Map.Keys.{IsDistinct-head, IsDistinct-tail}
use Rattle.orca_names.specs.declared.kept_report.KeptReport.{KeptReport}
use Rattle.orca_names.specs.declared.parting.Parting.{Parting}
use Rattle.orca_names.specs.declared.parting.Parting.TheVariants.{Reaped}
use Rattle.orca_names.specs.declared.trace.Trace.{Trace}
use Rattle.reach_walk.proofs.Elements.{Contains-from_map}
use Rattle.event_rule.specs.declared.event.Event.{Event}
use Rattle.event_rule.specs.declared.event.Event.TheVariants.{Take, Go, Collect, Leave, Block, Hear, Scan, Reap}
use Rattle.event_rule.specs.Runs.{Goes, Leads}
use Rattle.letter_kinds.specs.Detector.{Detector, Token, after_scan, candidates, close_token, closed_set, has, hear_note, note_ack, handed_out, reports_of}
use Rattle.letter_kinds.specs.Closed.{largest_closed}
use Rattle.letter_kinds.specs.Reports.{count_on, kept_report}
use Rattle.letter_kinds.specs.declared.note.Note.{Note}
use Rattle.letter_kinds.specs.declared.note.Note.TheVariants as notes
use Rattle.letter_kinds.specs.declared.note.Report.{Report}
use Rattle.plain_rules.specs.Machine.{PlainState, start_of}
use Rattle.machine_rules.specs.Next.{next}
use Rattle.machine_rules.specs.State.{State, first_state}
use Rattle.detector_laws.specs.Balance.{ActorsAreBalanced, sum_below}
use Rattle.detector_laws.specs.Cells.{held_on}
use Rattle.detector_laws.specs.Reports.{IsAsTold, IsRising, Reported, told_by_kept}
use Rattle.detector_laws.specs.Run.{IsStep, Hears, Scans, ReapsOne, LeavesOne, Blocks, TakesConfirm, MovesOne}
use Rattle.detector_laws.specs.Tokens.{IsSealed}
use Rattle.detector_laws.specs.World.{ReportsAreExact, TokensAreSound, World, at}
use Rattle.detector_laws.proofs.Letters.{EndsInConfirm-only}
use Rattle.detector_laws.proofs.Maps.{at_other, at_same}
use Rattle.detector_laws.proofs.Members.{Contains-from_filter, each_has, earlier_or_last, none_in_empty}
use Rattle.detector_laws.proofs.Named.{numbered_is_open}
use Rattle.detector_laws.proofs.Names.{names}
use Rattle.detector_laws.proofs.Notes.{with_notes-silent}
use Rattle.detector_laws.proofs.Order.{AllAbove, rising_parts}
use Rattle.detector_laws.proofs.Scan.{largest_chosen}
use Rattle.detector_laws.proofs.Sums.{sum_below_at}
use Rattle.machine_laws.specs.AllFacts.{AllFacts}
use Rattle.machine_laws.proofs.Balancing.{balanced}
use Rattle.machine_laws.proofs.Done.{reaps_take_the_done}
use Rattle.machine_laws.proofs.Seen.{world}
use Rattle.machine_laws.proofs.Stepping.{next_steps}
use Rattle.machine_laws.proofs.WholeRuns.{event_keeps, start_all}
use Rattle.why_path.specs.Laws.{ReapedAreClosed}
use Rattle.why_path.specs.Partings.{IsClosedParting, held_among, parting_at, partings_after, partings_of}

-- ---- a member of an open token is its member once

abbrev StandOnce : List ℕ → Type 0
StandOnce ms = IsDistinct (λ a b. a == b) ms

abbrev MembersStandOnce : Detector → Type 0
MembersStandOnce d = (t : Token) → Contains d.tokens t → StandOnce t.members

others : (a : ℕ) (rs : List Report) → AllAbove a rs
    → AllByRecursion (λ b. (a == b) ≡ false) (names rs)
others a [] above = tt
others a (r ∷ rs) above =
    (ne_eqb a r.actor (λ e. let less = above.0 in absurd (omega arith)), others a rs above.1)

rising_once : (rs : List Report) → IsRising rs → StandOnce (names rs)
unfolding IsDistinct
rising_once [] rising = tt
rising_once (r ∷ rs) rising =
    let (above, rest) = rising_parts r rs rising in (others r.actor rs above, rising_once rs rest)

heard_once : (n : Note) (d : Detector) → MembersStandOnce d → MembersStandOnce (hear_note n d)
heard_once (notes.Block a count held) d once = once
heard_once (notes.Unblock a) d once = λ t c. once t (Contains-from_filter _ t d.tokens c).0
heard_once (notes.Ack number a) d once = λ t c.
    let (u, among, same) = Contains-from_map (note_ack number a) d.tokens t c in
    subst (λ (v : Token). StandOnce v.members) same (once u among)

scanned_once : (d : Detector) (set : List ℕ) → StandOnce set → MembersStandOnce d
    → MembersStandOnce (after_scan d set)
scanned_once d [] fresh once = once
scanned_once d (m ∷ ms) fresh once = λ t c. ⊎_elim
    (once t)
    (λ same. subst (λ (v : Token). StandOnce v.members) (sym same) fresh)
    (earlier_or_last d.tokens _ t c)

closed_once : (u : Token) (d : Detector) → MembersStandOnce d → MembersStandOnce (close_token u d)
closed_once u d once t c = once t (Contains-from_filter _ t d.tokens c).0

-- each event keeps it
step_once : (w v : World) → IsRising w.detector.kept → IsStep w v → MembersStandOnce w.detector
    → MembersStandOnce v.detector
step_once w v rising (Hears {n} e) once = heard_once n w.detector once
step_once w v rising (Scans e) once =
    scanned_once w.detector (closed_set w.detector)
    (rising_once (largest_closed (candidates w.detector)) (largest_chosen w rising).rising) once
step_once w v rising (ReapsOne {t} r) once =
    subst MembersStandOnce (sym r.detector) (closed_once t w.detector once)
step_once w v rising (LeavesOne l) once = subst MembersStandOnce (sym l.detector) once
step_once w v rising (Blocks can) once = once
step_once w v rising (TakesConfirm e) once = once
step_once w v rising (MovesOne m) once = subst MembersStandOnce (sym m.detector) once

-- ---- a sum over all numbers, of which only some add to it

nothing_below : (n : ℕ) (f : ℕ → ℕ) → ((b : ℕ) → f b ≡ 0) → sum_below n f ≡ 0
nothing_below zero f none = refl
nothing_below (suc n) f none = omega (arith, none n, nothing_below n f none)

same_without : (f : ℕ → ℕ) (m : ℕ) (ms : List ℕ) → AllByRecursion (λ b. (m == b) ≡ false) ms
    → sum_by (at f m 0) ms ≡ sum_by f ms
same_without f m [] other = refl
same_without f m (b ∷ ms) other =
    omega (
      arith,
      sum_by-cons (at f m 0) b ms,
      sum_by-cons f b ms,
      same_without f m ms other.1,
      at_other f m 0 b (apart m b other.0),
    )
  where
    apart : (m b : ℕ) → (m == b) ≡ false → b ≢ m
    apart m b other same = let is = eq-eqb m b (sym same) in cc

sum_of_some : (n : ℕ) (f : ℕ → ℕ) (ms : List ℕ) → StandOnce ms → AllByRecursion (λ m. m < n) ms
    → ((b : ℕ) → has ms b ≡ false → f b ≡ 0) → sum_below n f ≡ sum_by f ms
sum_of_some n f [] once below none = nothing_below n f (λ b. none b refl)
sum_of_some n f (m ∷ ms) once below none =
    let rest = sum_of_some n (at f m 0) ms (IsDistinct-tail _ m ms once) below.1
    (λ b out. ⊎_elim
    (λ same. subst (λ k. at f m 0 k ≡ 0) (sym same) (at_same f m 0))
    (λ other. at_other f m 0 b other ∙ none b (rw (ne_eqb m b (λ e. other (sym e))) out))
    (cases_eq b m)) in
    omega (
      arith,
      sum_below_at n m f below.0,
      rest,
      same_without f m ms (IsDistinct-head _ m ms once),
      sum_by-cons f m ms,
    )

-- ---- a sealed token is closed by what is kept of its members

module _ (w : World) (t : Token) (bal : ActorsAreBalanced w) (exact : ReportsAreExact w)
    (sound : TokensAreSound w) (is_open : Contains w.detector.tokens t)
    (seal : IsSealed w.cell w.mail w.loaded w.notes t) (once : StandOnce t.members) where
  -- what is kept of each member is so
  told : (m : ℕ) → has t.members m ≡ true
      → (r : Report) × (kept_report w.detector.kept m ≡ Some r) × IsAsTold (w.cell m) m (Reported r)
  told m member =
      let (r, kept) = sound.kept t is_open m member in (
        r,
        kept,
        subst (IsAsTold (w.cell m) m)
            (with_notes-silent m (told_by_kept (kept_report w.detector.kept m)) w.notes (seal m member).silent
            ∙ ap told_by_kept kept)
            (exact.last m),
      )

  -- what members report to hold on an actor is what they hold
  held : (x : ℕ) (ms : List ℕ) → AllByRecursion (λ m. has t.members m ≡ true) ms
      → held_among x (reports_of w.detector.kept ms) ≡ sum_by (λ m. held_on (w.cell m) x) ms
  held x [] members = refl
  held x (m ∷ ms) members =
      let (r, kept, as_told) = told m members.0 in
      let rest = reports_of w.detector.kept ms in
      ap (λ o. held_among x (cons_option (option_map handed_out o) rest)) kept
      ∙ omega (
        arith,
        sum_by-cons (λ (k : KeptReport). count_on k.held x) (handed_out r) rest,
        sum_by-cons (λ b. held_on (w.cell b) x) m ms,
        as_told.1.held x,
        ap (λ o. held_on o x) as_told.0.here,
        held x ms members.1,
      )

  made : (m : ℕ) → has t.members m ≡ true → m < w.made
  made m member = let here = (told m member).2.0 in bal.made m here.cell here.here

  -- a member's count is what the members hold on it
  counted : (m : ℕ) (member : has t.members m ≡ true)
      → (told m member).0.count ≡ held_among m (reports_of w.detector.kept t.members)
  counted m member =
      let (r, kept, as_told) = told m member in
      let sealed = seal m member in
      let confirms = EndsInConfirm-only t.number (w.mail m) sealed.letters in
      let full = bal.full m as_told.0.cell as_told.0.here confirms in
      let below = each_has (λ b. b < w.made) t.members made in
      let some = sum_of_some w.made (λ b. held_on (w.cell b) m) t.members once below sealed.held in
      let summed = held m t.members (each_has _ t.members (λ b i. i)) in
      omega (arith, as_told.1.count, full, sealed.unloaded, some, summed)

  abbrev IsCounted : KeptReport → Type 0
  IsCounted k = k.count ≡ held_among k.actor (reports_of w.detector.kept t.members)

  all_counted : (ms : List ℕ) → AllByRecursion (λ m. has t.members m ≡ true) ms
      → AllByRecursion IsCounted (reports_of w.detector.kept ms)
  all_counted [] members = tt
  all_counted (m ∷ ms) members =
      let (r, kept, as_told) = told m members.0 in
      let all = reports_of w.detector.kept t.members in
      let rest = reports_of w.detector.kept ms in
      let first = subst (λ a. r.count ≡ held_among a all) (sym as_told.1.actor) (counted m members.0) in
      subst (λ o. AllByRecursion IsCounted (cons_option (option_map handed_out o) rest)) (sym kept)
      (first, all_counted ms members.1)

  closed : All IsCounted (reports_of w.detector.kept t.members)
  closed = All-from_recursion IsCounted (reports_of w.detector.kept t.members)
      (all_counted t.members (each_has _ t.members (λ b i. i)))

-- ---- books

first_more : (o : Option Parting) (ps : List Parting) → IfSome o IsClosedParting
    → AllByRecursion IsClosedParting ps → AllByRecursion IsClosedParting (cons_option o ps)
first_more None ps first rest = rest
first_more (Some p) ps first rest = (first, rest)

module _ (trace : Trace) (p : PlainState) (s : State) (facts : AllFacts trace p s)
    (once : MembersStandOnce s.detector) where
  -- whoever goes by an entry is closed
  goes_closed : (u : State) (e : Event) → next s e ≡ Goes u → IfSome (parting_at s e) IsClosedParting
  goes_closed u (Reap number) goes =
      let taken = reaps_take_the_done trace p s facts number (λ off. let both = sym goes ∙ off in cc) in
      let token = taken.token in
      let is_open = (numbered_is_open s.detector number token taken.is_open).0 in
      let bal = balanced s.actors s.detector s.notes facts.beside.counts.balanced facts.own in
      let parting = λ (t : Token). Reaped number (reports_of s.detector.kept t.members) in
      subst (λ o. IfSome (option_map parting o) IsClosedParting) (sym taken.is_open)
      (closed (world s) token bal facts.detector.reports facts.detector.tokens is_open taken.sealed
      (once token is_open))
  goes_closed u e goes = tt

closed_from : (trace : Trace) (book : List Event) (p : PlainState) (s t : State) → AllFacts trace p s
    → MembersStandOnce s.detector → Leads next s book t
    → AllByRecursion IsClosedParting (partings_of book s)
closed_from trace [] p s t facts once leads = tt
closed_from trace (e ∷ book) p s t facts once leads =
    let u = leads.0 in
    let goes = leads.1 in
    let after = event_keeps trace p s u e facts goes in
    let step = next_steps trace p s facts.beside facts.detector u e goes in
    let still = step_once (world s) (world u) facts.detector.rising step once in
    let first = goes_closed trace p s facts once u e goes in
    let rest = closed_from trace book after.0 u t after.2 still leads.2 in
    subst (λ step. AllByRecursion IsClosedParting (cons_option (parting_at s e) (partings_after (partings_of book) step)))
    (sym goes) (first_more (parting_at s e) (partings_of book u) first rest)

pub reaped_closed : ReapedAreClosed
reaped_closed program options heavy book t run =
    let start = first_state program options in
    All-from_recursion IsClosedParting (partings_of book start)
    (closed_from options.trace book (start_of program) start t (start_all program options heavy)
    (λ u c. absurd (none_in_empty u c)) run)
