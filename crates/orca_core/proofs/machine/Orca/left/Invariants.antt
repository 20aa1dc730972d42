use Rattle.orca_core.proofs.Listing.{IsLeftBelow}
use Rattle.orca_core.proofs.machine.Orca.left.Given as goal

abbrev pub invariant-loop-a : goal.invariant-loop-a
invariant-loop-a l = IsLeftBelow l.self.state.actors l.a l.things.items
