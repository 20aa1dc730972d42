-- An event makes one actor at most, and none goes from the list.
use Rattle.std.proofs.Common.{◌≡◌, ◌+◌, ◌≤◌, ℕ, suc, [], ◌∷◌, ◌++◌, length, set, false, Option, refl, arith, length-set, length-append}
use Rattle.orca_names.specs.declared.trace.Trace.{Trace}
use Rattle.event_rule.specs.Runs.{Goes}
use Rattle.event_rule.specs.declared.event.Event.{Event}
use Rattle.letter_kinds.specs.Counting.{by_owner, given_back, sweep}
use Rattle.letter_kinds.specs.Detector.{closed_set}
use Rattle.letter_kinds.specs.Letters.{Letter}
use Rattle.machine_rules.specs.Actors.{Actors, Seat, push_letter, seat}
use Rattle.machine_rules.specs.Collect.{is_marked, without_unused}
use Rattle.machine_rules.specs.Next.{next}
use Rattle.machine_rules.specs.Rules.{IsStep}
use Rattle.machine_rules.specs.Rules as rule
use Rattle.machine_rules.specs.State.{State}
use Rattle.machine_rules.proofs.Stepping.{step_of}
use Rattle.count_laws.proofs.bounds.Bounding.{length-asked}
use Rattle.count_laws.proofs.events.Every.{length-decs}
use Rattle.machine_rules.proofs.Posting.{length-push}
use Rattle.count_laws.proofs.events.Reap.{length-reap}

-- at most one more
pub record Grows (old new : Actors) : Type 0 where
  pub kept : length old ≤ length new
  pub one : length new ≤ length old + 1

same_long : (old new : Actors) → length new ≡ length old → Grows old new
same_long old new same = record { kept = omega arith; one = omega arith }

grows_set : (s : Actors) (a : ℕ) (o : Option Seat) → Grows s (set s a o)
grows_set s a o = same_long s (set s a o) (length-set s a o)

grows_push : (s : Actors) (a b : ℕ) (o : Option Seat) (l : Letter) → Grows s (push_letter b l (set s a o))
grows_push s a b o l =
    let k = length-push b l (set s a o) in let n = length-set s a o in
    same_long s (push_letter b l (set s a o)) (omega arith)

grows_make : (s : Actors) (a : ℕ) (o new : Option Seat) → Grows s (set s a o ++ new ∷ [])
grows_make s a o new =
    let l = length-set s a o in let k = length-append (set s a o) (new ∷ []) in
    record { kept = omega arith; one = omega arith }

grows_in : (trace : Trace) (s : State) {e : Event} {t : State} → IsStep trace s e t → Grows s.actors t.actors
grows_in trace s (rule.takes a c l mail at is) = grows_set s.actors a _
grows_in trace s (rule.ends a c mail f stops) = grows_set s.actors a _
grows_in trace s (rule.prints a c mail f v stops) = grows_set s.actors a _
grows_in trace s (rule.makes a c mail f kind register stops room) = grows_make s.actors a _ _
grows_in trace s (rule.posts a c mail f to behaviour args stops none) = grows_push s.actors a to _ _
grows_in trace s (rule.mints a c mail f to behaviour args e lacked stops is) = grows_push s.actors a _ _ _
grows_in trace s (rule.gets a c mail f x going need) = grows_push s.actors a _ _ _
grows_in trace s (rule.collects a c mail at may) =
    let back = by_owner (given_back (is_marked trace a c) (without_unused trace a c).holdings) in
    let swept = seat (record (without_unused trace a c) { holdings = sweep (is_marked trace a c) a (without_unused trace a c).holdings; dirty = false }) mail in
    let k = length-decs back (set s.actors a swept) in
    let l = length-set s.actors a swept in same_long s.actors _ (omega arith)
grows_in trace s (rule.leaves a c mail at may) = same_long s.actors _ (length-reap (a ∷ []) s.actors)
grows_in trace s (rule.blocks a c mail at may) = grows_set s.actors a _
grows_in trace s (rule.hears note later is) = same_long s.actors s.actors refl
grows_in trace s (rule.scans news) = same_long s.actors _ (length-asked (closed_set s.detector) (suc s.detector.opened) s.actors)
grows_in trace s (rule.reaps number token is) = same_long s.actors _ (length-reap token.members s.actors)

pub grows_by_one : (s t : State) (e : Event) → next s e ≡ Goes t → Grows s.actors t.actors
grows_by_one s t e goes = grows_in s.options.trace s (step_of s t e goes)
