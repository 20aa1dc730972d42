-- Loads by what is told of their rows.
use Rattle.std.proofs.Common.{◌≡◌, ℕ, List, [], ◌∷◌, Option, map, refl, sym, ap, subst, ◌∙◌}
use Rattle.orca_names.specs.declared.names.ObjName.{ObjName}
use Rattle.orca_names.specs.declared.names.Thing.{Thing}
use Rattle.orca_names.specs.declared.names.Value.{Value}
use Rattle.row_store.specs.Standing.{AreRemembered}
use Rattle.row_store.specs.Told.{Lying, lie_as, thing_lies, thing_row}
use Rattle.row_store.specs.declared.told.Told.{Told}
use Rattle.row_store.proofs.Telling.{lie_same}
use Rattle.letter_kinds.specs.Counting.{Loaded}
use Rattle.letter_kinds.specs.Holdings.{Row, row_of, with_made}
use Rattle.letter_kinds.specs.Load.{AreKnown, as_load}
use Rattle.object_heap.specs.Heap.{Heap}
use Rattle.foreign_table.specs.Table.{Table}
use Rattle.known_rows.specs.Holdings.{holdings_of}
use Rattle.known_rows.specs.InTurn.{turn_block}
use Rattle.root_trace.proofs.Lying.{lie_known}

-- their rows, wherever they lie
pub rows_lying : (rows : ObjName → Option (List Value)) (blocks : ObjName → Option ℕ) (things : List Thing)
    → as_load (map {B = Thing × Lying} (λ x. (x, thing_lies rows blocks x)) things) ≡ map {B = Loaded} (λ x. (x, thing_row rows x)) things
rows_lying rows blocks [] = refl
rows_lying rows blocks (x ∷ things) = ap (λ load. (x, thing_row rows x) ∷ load) (rows_lying rows blocks things)

-- the things are those that are told
pub things_told : (rows : ObjName → Option (List Value)) (items : List (Thing × Told))
    → map (λ (e : Thing × Told). e.0) items ≡ map (λ (e : Loaded). e.0) (as_load (lie_as rows items))
things_told rows [] = refl
things_told rows (e ∷ items) = ap (λ things. e.0 ∷ things) (things_told rows items)

-- where what lies in a block is remembered
module _ (rows memory : ObjName → Option (List Value)) (blocks : ObjName → Option ℕ) (known : AreRemembered rows blocks memory)
    (items : List (Thing × Told)) (things : List Thing)
    (lie : lie_as rows items ≡ map {B = Thing × Lying} (λ x. (x, thing_lies rows blocks x)) things) where
  pub same_lying : lie_as memory items ≡ map {B = Thing × Lying} (λ x. (x, thing_lies rows blocks x)) things
  same_lying = lie_same rows memory blocks known items things lie ∙ lie

  pub are_known : AreKnown (lie_as memory items)
  are_known = subst AreKnown (sym same_lying) (lie_known rows blocks known.there things)

  pub load_lying_is : as_load (lie_as memory items) ≡ map {B = Loaded} (λ x. (x, thing_row rows x)) things
  load_lying_is = ap as_load same_lying ∙ rows_lying rows blocks things

-- what is remembered of tables in a turn is so of tables that are these
abbrev pub TurnRemembered : (ObjName → Option (List Value)) → List Row → Heap → Table → Type 0
TurnRemembered memory made heap foreign =
    AreRemembered (row_of heap.owner (with_made made (holdings_of 0 heap foreign))) (turn_block made heap foreign) memory

pub remembered_alike : (memory : ObjName → Option (List Value)) (made made' : List Row) (heap heap' : Heap) (foreign foreign' : Table)
    → made' ≡ made → heap' ≡ heap → foreign' ≡ foreign → TurnRemembered memory made heap foreign → TurnRemembered memory made' heap' foreign'
remembered_alike memory made made' heap heap' foreign foreign' rows own held known =
    subst (λ rows. TurnRemembered memory rows heap' foreign') (sym rows)
    (subst (λ h. TurnRemembered memory made h foreign') (sym own) (subst (TurnRemembered memory made heap) (sym held) known))
