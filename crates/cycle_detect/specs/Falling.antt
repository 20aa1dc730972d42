-- Reports that fall, since the others do not cover them.
use Rattle.std.specs.Prelude.{ℕ, zero, suc, ◌≡◌, ◌+◌, ◌*◌, ◌<◌, ◌≤◌, ◌==◌, if◌then◌else◌, not, Bool, true, false, List, [], ◌∷◌, filter, length, slice_index, slice_index_or, sum_by}
use Rattle.std.specs.List.{AllByRecursion, Contains}
use Rattle.letter_kinds.specs.Closed.{IsClosed}
use Rattle.letter_kinds.specs.Detector.{Token, has, in_token}
use Rattle.letter_kinds.specs.Reports.{told_on_by}
use Rattle.letter_kinds.specs.declared.note.Report.{Report}
use Rattle.cycle_detect.specs.Kept.{actors_of}
use Rattle.detector_tokens.specs.Marks.{mark_of}

-- the reports of actors in no token
abbrev pub free_reports : List Token → List Report → List Report
free_reports tokens reports = filter (λ r. not (in_token tokens r.actor)) reports

-- how many counts these reports tell
abbrev pub held_count : List Report → ℕ
held_count reports = sum_by (λ r. length r.held) reports

-- the most steps in which the largest closed set among these reports is found
abbrev pub step_bound : List Report → ℕ
step_bound reports = 6 * (length reports + held_count reports + 1)

-- what an entry of a teller's report tells on an actor
abbrev pub told_in : ℕ × ℕ → ℕ → ℕ → ℕ
told_in entry teller x = if teller == x then 0 else (if entry.0 == x then entry.1 else 0)

-- how many of them those tell whose mark is off
abbrev pub held_left : List Report → List Bool → ℕ
held_left [] marks = 0
held_left (r ∷ rs) [] = held_count (r ∷ rs)
held_left (r ∷ rs) (b ∷ bs) = (if b then 0 else length r.held) + held_left rs bs

-- the count of the report at a place
abbrev pub count_at : List Report → ℕ → ℕ
count_at [] k = 0
count_at (r ∷ rs) zero = r.count
count_at (r ∷ rs) (suc k) = count_at rs k

-- the report is of an actor whose mark is off
abbrev pub is_unmarked : List Report → List Bool → Report → Bool
is_unmarked reports marks r = not (mark_of (actors_of reports) marks r.actor)

-- the reports whose mark is off
abbrev pub those_left : List Report → List Bool → List Report
those_left reports marks = filter (is_unmarked reports marks) reports

-- what those whose mark is off tell on an actor
abbrev pub told_without : List Report → List Bool → ℕ → ℕ
told_without reports marks x = told_on_by x (those_left reports marks)

-- no closed set has lost a member
abbrev pub LosesNone : List Report → (Report → Bool) → Type 0
LosesNone reports stands = (set : Report → Bool) → IsClosed (filter set reports)
    → (q : Report) → Contains reports q → set q ≡ true → stands q ≡ true

-- who is out is in no closed set, and what it told was taken off, or it waits; who is not out, up to
-- a place, is covered
pub record AreFalling (reports : List Report) (limit : ℕ) (off out : List Bool) (sums work : List ℕ)
    : Type 0 where
  pub long_sums : length sums ≡ length reports
  pub long_out : length out ≡ length reports
  pub loses : LosesNone reports (is_unmarked reports out)
  pub covered : (k : ℕ) → k < limit → k < length reports → slice_index_or out k false ≡ false
      → count_at reports k ≤ slice_index sums k
  pub within : (k : ℕ) → slice_index_or off k false ≡ true → slice_index_or out k false ≡ true
  pub pending : (k : ℕ) → slice_index_or out k false ≡ true → slice_index_or off k false ≡ false
      → has work k ≡ true
  pub places : AllByRecursion (λ k. (k < length reports) × (slice_index_or out k false ≡ true)) work
