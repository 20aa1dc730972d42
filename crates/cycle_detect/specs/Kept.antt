-- Reports by their actors.
use Rattle.std.specs.Prelude.{ℕ, suc, ◌≡◌, ◌≤◌, ⊤, Bool, false, List, [], ◌∷◌, IfSome, length, map, Option, None, is_some, slice_index_or}
use Rattle.std.specs.Borrow.{Bor}
use Rattle.std.specs.List.{filter_map}
use Rattle.letter_kinds.specs.declared.note.Report.{Report}

-- the reports in these slots
abbrev pub reports_in : List (Option Report) → List Report
reports_in slots = filter_map (λ slot. slot) slots

-- the report in a slot
abbrev pub slot_at : List (Option Report) → ℕ → Option Report
slot_at slots k = slice_index_or slots k None

-- each report is in the slot of its actor; the first slot is that of actor n
abbrev pub AreFrom : ℕ → List (Option Report) → Type 0
AreFrom n [] = ⊤
AreFrom n (slot ∷ slots) = IfSome slot (λ r. r.actor ≡ n) × AreFrom (suc n) slots

-- each report is in the slot of its actor, and a place is on exactly where its slot has a report
pub record AreByActor (slots : List (Option Report)) (kept : List Bool) : Type 0 where
  pub named : AreFrom 0 slots
  pub told : (k : ℕ) → slice_index_or kept k false ≡ is_some (slot_at slots k)
  pub long : length slots ≤ length kept
  pub few : length slots ≤ 262144

-- the reports behind these references
abbrev pub reports_at : List (Bor Report) → List Report
reports_at references = map (λ r. r.now) references

-- the actors of reports
abbrev pub actors_of : List Report → List ℕ
actors_of reports = map (λ r. r.actor) reports
