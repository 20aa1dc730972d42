use Rattle.std.proofs.Common.{take, Contains}
use Rattle.thing_list.proofs.putting.is_among.Given as goal

abbrev pub invariant-loop-other : goal.invariant-loop-other
invariant-loop-other l = Contains (take l.other-index l.things) l.thing → ⊥
