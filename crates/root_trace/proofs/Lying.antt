-- What loads of things tell of rows in blocks.
use Rattle.std.proofs.Common.{◌≡◌, ℕ, List, Option, Some, None, IsSome, get_or, map, sym, ap, ◌∙◌}
use Rattle.std.proofs.lemmas.List.Elements.{All-map}
use Rattle.orca_names.specs.declared.names.ObjName.{ObjName}
use Rattle.orca_names.specs.declared.names.Thing.{Thing}
use Rattle.orca_names.specs.declared.names.Thing.TheVariants.{Actor, Obj}
use Rattle.orca_names.specs.declared.names.Value.{Value}
use Rattle.row_store.specs.Told.{Lying, thing_lies}
use Rattle.reach_walk.proofs.Elements.{Contains-from_map}
use Rattle.letter_kinds.specs.Load.{AreKnown}
use Rattle.letter_kinds.specs.Telling.{Told, in_block}

module _ (rows : ObjName → Option (List Value)) (blocks : ObjName → Option ℕ) where
  abbrev lies : Thing → Thing × Lying
  lies x = (x, thing_lies rows blocks x)

  thing_known : ((n : ObjName) → IsSome (blocks n) → IsSome (rows n)) → (x : Thing) → IsSome (lies x).1.block → IsSome (lies x).1.row
  thing_known there (Actor a) some = some
  thing_known there (Obj n) some = there n some

  -- where what lies in a block has a row, each of a load has
  pub lie_known : ((n : ObjName) → IsSome (blocks n) → IsSome (rows n)) → (things : List Thing) → AreKnown (map lies things)
  lie_known there things =
      All-map (λ (e : Thing × Lying). IsSome e.1.block → IsSome e.1.row) lies things (λ i d l. thing_known there (get_or things i d))

  thing_tells : (x : Thing) (n : ObjName) (row : List Value) (block : ℕ) → lies x ≡ in_block n row block → (rows n ≡ Some row) × (blocks n ≡ Some block)
  thing_tells (Actor a) n row block is = let l : None ≡ Some block = ap (λ (e : Thing × Lying). e.1.block) is in cc
  thing_tells (Obj k) n row block is =
      let first : Obj k ≡ Obj n = ap (λ (e : Thing × Lying). e.0) is in
      let name : k ≡ n = cc in
      (ap rows (sym name) ∙ ap (λ (e : Thing × Lying). e.1.row) is, ap blocks (sym name) ∙ ap (λ (e : Thing × Lying). e.1.block) is)

  -- what a load tells is the row of the object, and lies in the block
  pub lying_tells : (things : List Thing) (n : ObjName) (row : List Value) (block : ℕ) → Told (map lies things) n row block
      → (rows n ≡ Some row) × (blocks n ≡ Some block)
  lying_tells things n row block among =
      let from = Contains-from_map lies things (in_block n row block) among in
      thing_tells from.0 n row block from.2
