use Rattle.table_check.proofs.Here.{heap_here}
use Rattle.table_check.proofs.heap_tests.differs_once_raised.Goals as goal

pub same-requires : goal.same-requires
same-requires c = heap_here c.raise.new.heap c.args.heap.now c.raise.ensures c.requires
