use Rattle.object_heap.proofs.search.search_there.Goals as goal

pub unreachable-requires : goal.unreachable-requires
unreachable-requires c = c.requires.1 c.in-Err.field-0 c.in-Err.ensures
