use Rattle.std.proofs.Common.{◌∙◌, arith, subst, sym, ap, slice_get, Some}
use Rattle.block_table.specs.Blocks.{Blocks}
use Rattle.block_table.proofs.Telling.{get-set_same}
use Rattle.std.proofs.lemmas.Option.{slice_get_within}
use Rattle.object_heap.specs.Heap.{Has}
use Rattle.table_check.proofs.FirstObject.{first_lies, first_there, one_there, taken_once}
use Rattle.table_check.proofs.row_block_tests.is_taken_again.Goals as goal

pub make_in-requires-clause-fits : goal.make_in-requires-clause-fits
make_in-requires-clause-fits c = omega (arith, c.requires.heap.next)

pub give_back_freed-requires-clause-lie : goal.give_back_freed-requires-clause-lie
give_back_freed-requires-clause-lie c = λ some.
    let bs = c.args.blocks.now in
    let k = c.take-block.result in
    let free = c.take-block.ensures.lowest.free in
    let has = ap (λ (b : Blocks). slice_get b k) c.take-block.ensures.set ∙ get-set_same bs k _ (slice_get_within bs k _ free)
    ∙ ap (λ n. Some (Some n)) c.named.ensures in
    first_lies c.args.heap.now _ _ k c.requires.heap c.make_in.ensures.made _ has (taken_once _ bs _ c.requires.blocks c.take-block.ensures.blocks)

pub give_back_freed-requires-clause-there : goal.give_back_freed-requires-clause-there
give_back_freed-requires-clause-there c =
    one_there c.make_in.new.self _ (subst (Has c.make_in.new.self) (sym c.named-2.ensures)
    (first_there c.args.heap.now _ _ c.take-block.result c.requires.heap c.make_in.ensures.made))
