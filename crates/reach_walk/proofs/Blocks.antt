-- Rows that are lent from blocks whose words are known.
use Rattle.std.proofs.Common.{◌≡◌, ℕ, List, Option, None, Some, IsSome, refl, ◌∙◌}
use Rattle.orca_names.specs.declared.names.ObjName.{ObjName}
use Rattle.orca_names.specs.declared.names.Thing.{Thing}
use Rattle.orca_names.specs.declared.names.Thing.TheVariants.{Actor, Obj}
use Rattle.orca_names.specs.declared.names.Value.{Value}
use Rattle.row_store.specs.Lent.{IsLent}
use Rattle.row_store.specs.Standing.{Stand}
use Rattle.row_store.specs.Told.{thing_block, thing_row}
use Rattle.row_store.specs.Words.{HasRow, HoldsRow, IsRow, SameWords, Words}
use Rattle.row_store.specs.declared.lent.Lent.TheVariants.{In}

-- words that stay as they are, and stay again
pub words_stay : {S B : Type 0} (knows : S → Words) (opens : S → List ℕ) (stands : S → B) (old now new : S) → SameWords knows opens stands old now → SameWords knows opens stands now new → SameWords knows opens stands old new
words_stay knows opens stands old now new first then = record {
  known = then.known ∙ first.known;
  places = then.places ∙ first.places;
  beside = then.beside ∙ first.beside;
}

module _ (rows : ObjName → Option (List Value)) (blocks : ObjName → Option ℕ) (known : Words) (stand : Stand rows blocks known) where
  -- the row of an object lies in the block
  pub row_lies : (n : ObjName) (block : ℕ) → IsLent (rows n) (blocks n) (In block) → (row : List Value) × (rows n ≡ Some row) × IsRow row × HoldsRow block row known
  row_lies n block lent = by (rows n) refl lent.0
    where
      by : (o : Option (List Value)) → rows n ≡ o → IsSome o → (row : List Value) × (rows n ≡ Some row) × IsRow row × HoldsRow block row known
      by None e some = cc
      by (Some row) e some = (row, e, stand.is_row n row block e lent.1, stand.holds n row block e lent.1)

  -- so the block has a row
  pub has_row : (x : Thing) (block : ℕ) → IsLent (thing_row rows x) (thing_block blocks x) (In block) → HasRow block known
  has_row (Actor a) block lent = let none = lent.1 in cc
  has_row (Obj n) block lent = let lies = row_lies n block lent in (lies.0, lies.2, lies.3)
