use Rattle.std.proofs.Common.{ap}
use Rattle.object_heap.specs.Heap.{Heap}
use Rattle.table_check.proofs.Here.{new_here, none_held}
use Rattle.table_check.proofs.root_tests.letters_carry_the_rows_that_are_known.Goals as goal

pub carries_rows-holds-requires-clause-own : goal.carries_rows-holds-requires-clause-own
carries_rows-holds-requires-clause-own g c =
    new_here c.new-heap.result (ap (λ (h : Heap). h.blocks) c.new-heap.ensures)

pub carries_rows-holds-requires-clause-held : goal.carries_rows-holds-requires-clause-held
carries_rows-holds-requires-clause-held g c = none_held c.new-foreign.result c.new-foreign.ensures
