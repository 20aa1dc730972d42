use Rattle.std.proofs.Common.{sym, ap, subst}
use Rattle.object_heap.specs.Heap.{AllHere, Heap}
use Rattle.object_heap.proofs.Placed.{made_here}
use Rattle.table_check.proofs.Here.{heap_here}
use Rattle.table_check.proofs.cases.makes.Goals as goal

pub returns : goal.returns
returns c = λ here.
    let before = c.reserve.new.self in
    let now = heap_here before c.args.heap.now (ap (λ (h : Heap). h.blocks) c.reserve.ensures.same) here in
    subst AllHere (sym c.make.ensures.made) (made_here c.in-Some.row before now)
