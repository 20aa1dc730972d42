use Rattle.std.proofs.Common.{◌≡◌, map, take}
use Rattle.actor_cell.proofs.go.things_of.Given as goal

abbrev pub invariant-loop-loaded : goal.invariant-loop-loaded
invariant-loop-loaded l = l.things ≡ map (λ e. e.0) (take l.loaded-index l.items)
