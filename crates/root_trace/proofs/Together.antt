-- Among the rows of the own objects alone these stand together too.
use Rattle.std.proofs.Common.{◌≡◌, cond, eq-eqb, refl, sym, ◌∙◌}
use Rattle.orca_names.specs.Names.{owner_of}
use Rattle.orca_names.specs.declared.names.Thing.{Thing}
use Rattle.orca_names.specs.declared.names.Thing.TheVariants.{Actor, Obj}
use Rattle.row_store.specs.Told.{thing_lies}
use Rattle.object_heap.specs.Heap.{Heap, own_block, own_row}
use Rattle.foreign_table.specs.Table.{Table, known_block, known_row}
use Rattle.reach_walk.specs.Dense.{StandTogether}
use Rattle.reach_walk.specs.declared.dense.Dense.{Dense}
use Rattle.reach_walk.proofs.Together.{stand_alike}
use Rattle.known_rows.specs.Known.{block_known, row_known}
use Rattle.known_rows.specs.Places.{place_in}

-- what is its own lies as the row of an own object
pub own_lies : (heap : Heap) (foreign : Table) (x : Thing) → owner_of x ≡ heap.owner → thing_lies (own_row heap) (own_block heap) x ≡ thing_lies (row_known heap foreign) (block_known heap foreign) x
own_lies heap foreign (Actor a) mine = refl
own_lies heap foreign (Obj n) mine =
    let own = sym (eq-eqb n.owner heap.owner mine) in
    λ j. record { row = cond (own j) (own_row heap n) (known_row foreign n); block = cond (own j) (own_block heap n) (known_block foreign n) }

pub own_together : (heap : Heap) (foreign : Table) (dense : Dense) → StandTogether (place_in heap foreign) (row_known heap foreign) (block_known heap foreign) dense → dense.owner ≡ heap.owner → StandTogether (place_in heap foreign) (own_row heap) (own_block heap) dense
own_together heap foreign dense together owner =
    stand_alike (place_in heap foreign) (place_in heap foreign) (row_known heap foreign) (own_row heap) (block_known heap foreign) (own_block heap) dense together
    (λ i x inside mine here. (here, own_lies heap foreign x (mine ∙ owner)))
