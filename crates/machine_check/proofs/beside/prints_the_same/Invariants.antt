use Rattle.machine_check.specs.Blocked.{Stands}
use Rattle.machine_check.proofs.beside.prints_the_same.Given as goal

abbrev pub invariant-loop : goal.invariant-loop
invariant-loop g l = Stands l.orca (g.W.RowWords.known l.words) (g.W.RowWords.places l.words)
