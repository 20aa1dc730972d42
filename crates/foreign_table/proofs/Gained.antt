-- What is told of a row, as it comes into a table.
use Rattle.std.proofs.Common.{◌≡◌, ℕ, List, length, Option, IsSome, refl, sym, ap, ◌∙◌, subst}
use Rattle.std.specs.Prelude.{is_some}
use Rattle.std.proofs.lemmas.Bool.{false≢true}
use Rattle.letter_kinds.specs.Holdings.{Row}
use Rattle.orca_names.specs.declared.names.ObjName.{ObjName}
use Rattle.orca_names.specs.declared.names.Thing.{Thing}
use Rattle.orca_names.specs.declared.names.Value.{Value}
use Rattle.row_store.specs.Told.{row_here, thing_row, told_block, told_row}
use Rattle.row_store.specs.declared.told.Told.{Told}
use Rattle.row_store.specs.declared.told.Told.TheVariants.{Nothing, Here, In}
use Rattle.foreign_table.specs.Entry.{as_row, lying_of}
use Rattle.foreign_table.specs.Table.{length_aside, row_length, row_seen}
use Rattle.foreign_table.proofs.Entries.{as_row_length}

-- what lies in a block is remembered then
pub told_room : (from later : ObjName → Option Row) (x : Thing) (told : Told) (block : Option ℕ) → block ≡ told_block told
    → (IsSome (told_block told) → IsSome (told_row from x told)) → (IsSome (told_block told) → thing_row later x ≡ thing_row from x)
    → IsSome block → IsSome (thing_row later x)
told_room from later x Nothing block is some same lies = absurd (false≢true (ap is_some (sym is) ∙ lies))
told_room from later x (Here row) block is some same lies = absurd (false≢true (ap is_some (sym is) ∙ lies))
told_room from later x (In at) block is some same lies = subst IsSome (sym (same refl)) (some refl)

-- the row is the one that is told
pub row_told : (from later : ObjName → Option Row) (x : Thing) (told : Told) (values : List Value) (block : Option ℕ) → as_row values ≡ row_here told → block ≡ told_block told
    → (IsSome (told_block told) → thing_row later x ≡ thing_row from x)
    → row_seen later x (lying_of values block) ≡ told_row from x told
row_told from later x Nothing values block here is same = (λ j. row_seen later x (lying_of values (is j))) ∙ here
row_told from later x (Here row) values block here is same = (λ j. row_seen later x (lying_of values (is j))) ∙ here
row_told from later x (In at) values block here is same = (λ j. row_seen later x (lying_of values (is j))) ∙ same refl

-- and takes as many values
pub aside_told : (from : ObjName → Option Row) (x : Thing) (told : Told) (values : List Value) → as_row values ≡ row_here told → (IsSome (told_block told) → length values ≡ 0)
    → length_aside (told_row from x told) (told_block told) ≡ length values
aside_told from x Nothing values here none = ap row_length (sym here) ∙ as_row_length values
aside_told from x (Here row) values here none = ap row_length (sym here) ∙ as_row_length values
aside_told from x (In at) values here none = sym (none refl)
