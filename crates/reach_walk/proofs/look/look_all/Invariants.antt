use Rattle.std.proofs.Common.{◌≡◌, ◌+◌, take}
use Rattle.reach_walk.specs.Reach.{named_by}
use Rattle.reach_walk.specs.Walk.{Adds, IsSeen}
use Rattle.reach_walk.proofs.look.look_all.Given as goal

abbrev pub invariant-loop-value : goal.invariant-loop-value
invariant-loop-value g l = record {
  adds : Adds (named_by (take l.value-index l.values)) l.fn.seen.things l.seen.things;
  seen : IsSeen l.seen;
  steps : l.steps ≡ l.fn.steps + l.value-index;
}
