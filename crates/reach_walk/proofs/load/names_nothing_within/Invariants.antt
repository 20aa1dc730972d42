use Rattle.std.proofs.Common.{◌≡◌, ◌+◌, take, []}
use Rattle.reach_walk.specs.Reach.{named_by}
use Rattle.reach_walk.proofs.load.names_nothing_within.Given as goal

abbrev pub invariant-loop-value : goal.invariant-loop-value
invariant-loop-value g l = record {
  none : named_by (take l.value-index l.values) ≡ [];
  steps : l.steps ≡ l.fn.steps + l.value-index;
}
