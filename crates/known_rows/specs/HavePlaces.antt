-- An object without a place in a turn has no row.
use Rattle.std.specs.Prelude.{◌≡◌, List, [], None}
use Rattle.std.proofs.Common.{sym, ◌∙◌}
use Rattle.orca_names.specs.declared.names.ObjName.{ObjName}
use Rattle.orca_names.specs.declared.names.Thing.TheVariants.{Obj}
use Rattle.letter_kinds.specs.Holdings.{Row, row_of, with_made}
use Rattle.object_heap.specs.Heap.{Heap, with_new}
use Rattle.foreign_table.specs.Table.{Table}
use Rattle.known_rows.specs.Holdings.{holdings_of}
use Rattle.known_rows.specs.OnlyPlaced as known
use Rattle.known_rows.specs.Places.{place_in}
use Rattle.known_rows.specs.Known.{row_known-row_of}

-- what the turn made has places as what was known has
pub rows_have_places : (made : List Row) (heap : Heap) (foreign : Table) (n : ObjName)
    → place_in (with_new made [] heap) foreign (Obj n) ≡ None
    → row_of heap.owner (with_made made (holdings_of 0 heap foreign)) n ≡ None
rows_have_places made heap foreign n none =
    sym (row_known-row_of 0 (with_new made [] heap) foreign n)
    ∙ known.rows_have_places (with_new made [] heap) foreign n none
