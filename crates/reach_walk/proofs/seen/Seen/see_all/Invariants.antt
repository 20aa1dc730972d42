use Rattle.std.proofs.Common.{take}
use Rattle.reach_walk.specs.Walk.{Adds, IsSeen}
use Rattle.reach_walk.proofs.seen.Seen.see_all.Given as goal

abbrev pub invariant-loop-thing : goal.invariant-loop-thing
invariant-loop-thing l = record {
  adds : Adds (take l.thing-index l.things) l.fn.self.things l.self.things;
  seen : IsSeen l.self;
}
