use Rattle.std.proofs.Common.{◌-◌, length, take}
use Rattle.thing_list.proofs.Settling.{Settles}
use Rattle.thing_list.proofs.list.settle.Given as goal

abbrev pub invariant-loop-i : goal.invariant-loop-i
invariant-loop-i l =
    Settles (take (length l.fn.things - 1) l.fn.things) l.thing l.things l.i

abbrev pub decreases-loop-i : goal.decreases-loop-i
decreases-loop-i l = l.i
