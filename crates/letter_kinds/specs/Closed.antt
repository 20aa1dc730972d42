-- Closed sets of reports, and the largest of them.
use Rattle.std.specs.Prelude.{ℕ, zero, suc, ◌≡◌, ◌≤◌, nat_le, Bool, List, length, filter}
use Rattle.std.specs.List.{AllByRecursion}
use Rattle.letter_kinds.specs.declared.note.Report.{Report}
use Rattle.letter_kinds.specs.Reports.{told_on_by}

-- each member's count is at most what the other members report to hold on it
abbrev pub IsClosed : List Report → Type 0
IsClosed members = AllByRecursion (λ r. r.count ≤ told_on_by r.actor members) members

-- the members are the largest closed set among the reports: every closed set lies in it
pub record IsLargest (reports members : List Report) : Type 0 where
  pub among : (kept : Report → Bool) × (members ≡ filter kept reports)
  pub closed : IsClosed members
  pub all : (set : Report → Bool) → IsClosed (filter set reports)
      → filter set members ≡ filter set reports

-- ---- the largest closed set, by rounds

-- the report's count is at most what the others among these tell on its actor
abbrev pub is_covered : List Report → Report → Bool
is_covered reports r = nat_le r.count (told_on_by r.actor reports)

-- without those that the others do not cover
abbrev pub one_round : List Report → List Report
one_round reports = filter (is_covered reports) reports

-- after so many rounds
abbrev pub rounds : ℕ → List Report → List Report
rounds zero reports = reports
rounds (suc n) reports = rounds n (one_round reports)

-- as many rounds as there are reports suffice
abbrev pub largest_closed : List Report → List Report
largest_closed reports = rounds (length reports) reports
