use Rattle.std.proofs.Common.{Some, take}
use Rattle.reach_walk.specs.Walk.{AreNoted}
use Rattle.reach_walk.proofs.seen.set_of.Given as goal

abbrev pub invariant-loop-thing : goal.invariant-loop-thing
invariant-loop-thing l = AreNoted (Some l.set) (take l.thing-index l.things)
