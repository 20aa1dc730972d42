-- Marks beside names, one for each.
use Rattle.std.specs.Prelude.{ℕ, zero, suc, ◌≡◌, ◌==◌, Bool, false, if◌then◌else◌, List, [], ◌∷◌, length, filter, not}
use Rattle.std.specs.List.Sorted.{IsStrictlySortedBy}
use Rattle.std.specs.Ordering.{nat_cmp}

-- those of the names whose mark is on
abbrev pub picked : List ℕ → List Bool → List ℕ
picked [] marks = []
picked (x ∷ xs) [] = []
picked (x ∷ xs) (b ∷ bs) = if b then x ∷ picked xs bs else picked xs bs

-- how many marks are off
abbrev pub off_count : List Bool → ℕ
off_count [] = zero
off_count (b ∷ bs) = if b then off_count bs else suc (off_count bs)

-- the mark of a name, off where it is not among these
abbrev pub mark_of : List ℕ → List Bool → ℕ → Bool
mark_of [] marks a = false
mark_of (x ∷ xs) [] a = false
mark_of (x ∷ xs) (b ∷ bs) a = if x == a then b else mark_of xs bs a

-- the names whose mark is off
abbrev pub unmarked_names : List ℕ → List Bool → List ℕ
unmarked_names names marks = filter (λ a. not (mark_of names marks a)) names

-- each name has a mark, and so many are off
pub record AreMarks (names : List ℕ) (marks : List Bool) (missing : ℕ) : Type 0 where
  pub rising : IsStrictlySortedBy nat_cmp names
  pub long : length marks ≡ length names
  pub count : missing ≡ off_count marks
