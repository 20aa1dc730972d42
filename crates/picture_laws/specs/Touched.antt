-- What an event leaves as it was stands in no line.
use Rattle.std.specs.Prelude.{ℕ, ◌≡◌, ◌≤◌, false, List, [], flat_map}
use Rattle.std.specs.List.Sorted.{IsStrictlySortedBy}
use Rattle.std.specs.Ordering.{nat_cmp}
use Rattle.letter_kinds.specs.Detector.{has}
use Rattle.picture_rules.specs.Parts.{numbers_below, part_change}
use Rattle.picture_rules.specs.Words.{Line}

-- of a part with the same lines nothing is told
abbrev pub KeptTellNothing : Type 0
KeptTellNothing = (gone : Line) (lines : List Line) → part_change gone lines lines ≡ []

-- where nothing is told of others, nor of any number from one on, what is told of all numbers below that
-- is what is told of these
abbrev pub TouchedTellAll : Type 0
TouchedTellAll =
    (change : ℕ → List Line) (n : ℕ) (touched : List ℕ) → IsStrictlySortedBy nat_cmp touched
    → ((a : ℕ) → n ≤ a → change a ≡ [])
    → ((a : ℕ) → has touched a ≡ false → change a ≡ [])
    → flat_map change (numbers_below n) ≡ flat_map change touched
