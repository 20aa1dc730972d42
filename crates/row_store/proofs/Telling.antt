-- What is told of rows that are remembered.
use Rattle.std.proofs.Common.{◌≡◌, ℕ, List, [], ◌∷◌, Option, Some, None, IsSome, true, ◌&&◌, refl, sym, ap, ◌∙◌, subst}
use Rattle.std.specs.Prelude.{map}
use Rattle.std.proofs.lemmas.Bool.{eq-eqb}
use Rattle.orca_names.specs.declared.names.ObjName.{ObjName}
use Rattle.orca_names.specs.declared.names.Thing.{Thing}
use Rattle.orca_names.specs.declared.names.Thing.TheVariants.{Actor, Obj}
use Rattle.orca_names.specs.declared.names.Value.{Value}
use Rattle.row_store.specs.declared.told.Told.{Told}
use Rattle.row_store.specs.declared.told.Told.TheVariants.{Nothing, Here, In}
use Rattle.row_store.specs.Memory.{is_object}
use Rattle.row_store.specs.Standing.{AreRemembered}
use Rattle.row_store.specs.Told.{Lying, lie_as, lies_as, row_here, thing_block, thing_lies, thing_row, told_block, told_of, told_row}

pub row_told : (memory : ObjName → Option (List Value)) (n : ObjName) (row : List Value) (block : Option ℕ)
    → (IsSome block → memory n ≡ Some row) → told_row memory (Obj n) (told_of row block) ≡ Some row
row_told memory n row None known = refl
row_told memory n row (Some block) known = known refl

pub block_told : (row : List Value) (block : Option ℕ) → told_block (told_of row block) ≡ block
block_told row None = refl
block_told row (Some block) = refl

-- a name is of the object that it names
pub is_itself : (n : ObjName) → is_object n n ≡ true
is_itself n = (λ j. eq-eqb n.owner n.owner refl j && eq-eqb n.serial n.serial refl j)

-- things lie the same way by what is remembered of their rows
module _ (rows memory : ObjName → Option (List Value)) (blocks : ObjName → Option ℕ)
    (known : AreRemembered rows blocks memory) where
  same_row : (x : Thing) (told : Told) → told_block told ≡ thing_block blocks x
      → told_row memory x told ≡ told_row rows x told
  same_row x Nothing lies = refl
  same_row x (Here row) lies = refl
  same_row (Actor a) (In block) lies = refl
  same_row (Obj n) (In block) lies = known.same n (subst IsSome lies refl)

  pub lie_same : (items : List (Thing × Told)) (things : List Thing)
      → lie_as rows items ≡ map (λ x. (x, thing_lies rows blocks x)) things
      → lie_as memory items ≡ lie_as rows items
  lie_same [] things lie = refl
  lie_same (e ∷ items) [] lie = cc
  lie_same (e ∷ items) (x ∷ things) lie =
      let first : lies_as rows e ≡ (x, thing_lies rows blocks x) = cc in
      let others : lie_as rows items ≡ map (λ x. (x, thing_lies rows blocks x)) things = cc in
      let its = same_row e.0 e.1 (ap (λ (l : Thing × Lying). l.1.block) first ∙ ap (thing_block blocks) (sym (ap (λ (l : Thing × Lying). l.0) first))) in
      λ j. (e.0, record { row = its j; block = told_block e.1 }) ∷ lie_same items things others j

-- the row, if it lies in no block
row_outside : Option (List Value) → Option ℕ → Option (List Value)
row_outside row None = row
row_outside row (Some block) = None

at_hand : Lying → Option (List Value)
at_hand l = row_outside l.row l.block

here_is : (rows : ObjName → Option (List Value)) (x : Thing) (told : Told)
    → row_here told ≡ at_hand (lies_as rows (x, told)).1
unfolding at_hand row_outside
here_is rows x Nothing = refl
here_is rows x (Here row) = refl
here_is rows x (In block) = refl

its_row : (rows : ObjName → Option (List Value)) (x : Thing)
    → at_hand (thing_lies rows (λ _. None) x) ≡ thing_row rows x
unfolding at_hand row_outside
its_row rows (Actor a) = refl
its_row rows (Obj n) = refl

-- what is told of things whose rows lie in no block is at hand
pub all_at_hand : (rows : ObjName → Option (List Value)) (items : List (Thing × Told)) (things : List Thing)
    → lie_as rows items ≡ map {B = Thing × Lying} (λ x. (x, thing_lies rows (λ _. None) x)) things
    → map {B = Thing × Option (List Value)} (λ e. (e.0, row_here e.1)) items
    ≡ map {B = Thing × Option (List Value)} (λ x. (x, thing_row rows x)) things
all_at_hand rows [] [] lie = refl
all_at_hand rows [] (x ∷ things) lie = cc
all_at_hand rows (e ∷ items) [] lie = cc
all_at_hand rows (e ∷ items) (x ∷ things) lie =
    let first : lies_as rows e ≡ (x, thing_lies rows (λ _. None) x) = cc in
    let others : lie_as rows items ≡ map {B = Thing × Lying} (λ x. (x, thing_lies rows (λ _. None) x)) things = cc in
    let name = ap (λ (l : Thing × Lying). l.0) first in
    let row : row_here e.1 ≡ thing_row rows x =
    here_is rows e.0 e.1 ∙ (ap (λ (l : Thing × Lying). at_hand l.1) first ∙ its_row rows x) in
    λ j. (name j, row j) ∷ all_at_hand rows items things others j
