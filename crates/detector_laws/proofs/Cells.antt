-- Actors that are present, and what is told of them.
use Rattle.std.proofs.Common.{◌≡◌, ◌≢◌, ℕ, true, Option, Some, None, refl, sym, ap, ◌∙◌}
use Rattle.std.proofs.lemmas.Bool.{false≢true}
use Rattle.letter_kinds.specs.Reports.{count_on}
use Rattle.letter_kinds.specs.declared.note.Report.{Report}
use Rattle.machine_rules.specs.Cell.{Cell}
use Rattle.detector_laws.specs.Cells.{held_on, is_reporting}
use Rattle.detector_laws.specs.Reports.{IsAsTold, IsBlocked, Reported}

pub some_not_none : {A : Type 0} {o : Option A} {x : A} → o ≡ Some x → o ≢ None
some_not_none here gone = cc

pub same_some : {A : Type 0} {o : Option A} {x y : A} → o ≡ Some x → o ≡ Some y → x ≡ y
same_some {x = x} {y = y} here there = let same : Some x ≡ Some y = sym here ∙ there in cc

-- who holds something is present
pub holder_present : (o : Option Cell) (x : ℕ) → held_on o x ≢ 0 → (c : Cell) × (o ≡ Some c)
holder_present None x h = absurd (h refl)
holder_present (Some c) x h = (c, refl)

-- so is who has a report out
pub reporter_present : (o : Option Cell) → is_reporting o ≡ true → (c : Cell) × (o ≡ Some c)
reporter_present None h = absurd (false≢true h)
reporter_present (Some c) h = (c, refl)

pub blocked_reports : {o : Option Cell} → IsBlocked o → is_reporting o ≡ true
blocked_reports b = ap is_reporting b.here ∙ b.reported

-- the report tells what its actor is
abbrev pub IsTrue : (ℕ → Option Cell) → Report → Type 0
IsTrue cell r = IsAsTold (cell r.actor) r.actor (Reported r)

pub true_holds : (cell : ℕ → Option Cell) (r : Report) → IsTrue cell r → (x : ℕ) → count_on r.held x ≡ held_on (cell r.actor) x
true_holds cell r told x = told.1.held x ∙ sym (ap (λ o. held_on o x) told.0.here)
