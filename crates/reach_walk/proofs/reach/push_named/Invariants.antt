use Rattle.std.proofs.Common.{◌≡◌, ◌++◌, take}
use Rattle.reach_walk.specs.Reach.{named_by}
use Rattle.reach_walk.proofs.reach.push_named.Given as goal

abbrev pub invariant-loop-value : goal.invariant-loop-value
invariant-loop-value l = l.things.items ≡ l.fn.things.items ++ named_by (take l.value-index l.values)
