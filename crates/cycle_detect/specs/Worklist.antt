-- What a worklist of reports that fall keeps true, step by step.
use Rattle.std.specs.Prelude.{ℕ, ◌≡◌, ◌+◌, ◌<◌, ◌≤◌, ◌⊎◌, ◌++◌, ◌∷◌, [], Bool, true, false, List, length, slice_index, slice_index_or, slice_set}
use Rattle.letter_kinds.specs.declared.note.Report.{Report}
use Rattle.cycle_detect.specs.declared.scan.Standing.{Standing}
use Rattle.cycle_detect.specs.Falling.{AreFalling, told_without}
use Rattle.detector_tokens.specs.Marks.{off_count}
use Rattle.cycle_detect.specs.Sums.{AreEnough}

-- a sum and a mark for each of so many reports
abbrev pub IsLong : ℕ → Standing → Type 0
IsLong count s = (length s.told.items ≡ count) × (length s.out.items ≡ count)

-- how many reports may still be taken off: those that stand, and those that wait
abbrev pub unsettled : Standing → ℕ
unsettled s = off_count s.out.items + length s.work.items

-- the reports that are marked in `off` were taken off, and these places wait
abbrev pub IsFalling : List Report → ℕ → List Bool → Standing → List ℕ → Type 0
IsFalling reports limit off s waiting =
    AreFalling reports limit off s.out.items s.told.items waiting

-- one look at the report at a place: it fell before or is covered, and nothing changes
abbrev pub Stays : ℕ → ℕ → Standing → Standing → Type 0
Stays k count before after =
    (slice_index_or before.out.items k false ≡ true) ⊎ (count ≤ slice_index before.told.items k)
    → (after.out.items ≡ before.out.items) × (after.work.items ≡ before.work.items)

-- or it falls, and waits
abbrev pub Falls : ℕ → ℕ → Standing → Standing → Type 0
Falls k count before after =
    slice_index_or before.out.items k false ≡ false → slice_index before.told.items k < count
    → (after.out.items ≡ slice_set before.out.items k true)
    × (after.work.items ≡ before.work.items ++ k ∷ [])

-- where the sums have these amounts above what is told without those that were taken off, all is as
-- it should be after they went, if it was before
abbrev pub StayFalling : List Report → List ℕ → (ℕ → ℕ) → Standing → Standing → Type 0
StayFalling reports names amount before after = (off : List Bool)
    → IsFalling reports (length names) off before before.work.items
    → AreEnough names (λ x. told_without reports off x + amount x) before.told.items
    → IsFalling reports (length names) off after after.work.items
