use Rattle.std.proofs.Common.{◌≡◌, ◌+◌, drop}
use Rattle.object_heap.specs.Heap.{with_new}
use Rattle.actor_cell.specs.Tells.{blocks_for}
use Rattle.actor_cell.proofs.apply.make_all.Given as goal

abbrev pub invariant-loop-i : goal.invariant-loop-i
invariant-loop-i l = record {
  heap : with_new (drop l.i l.made) (blocks_for (drop l.i l.made) (drop l.i l.blocks)) l.heap ≡ with_new l.made (blocks_for l.made l.blocks) l.fn.heap;
  next : l.heap.next ≡ l.fn.heap.next + l.i;
  spare : l.heap.spare + l.i ≡ l.fn.heap.spare;
}
