use Rattle.std.proofs.Common.{◌≡◌, map, take}
use Rattle.actor_cell.proofs.go.amounts_of.Given as goal

abbrev pub invariant-loop-thing : goal.invariant-loop-thing
invariant-loop-thing l = l.amounts ≡ map (λ x. (x, l.weight)) (take l.thing-index l.things)
