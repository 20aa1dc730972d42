use Rattle.machine_check.specs.Driven.{IsDriven}
use Rattle.machine_check.proofs.tests.does_all.Given as goal

abbrev pub invariant-loop-kind : goal.invariant-loop-kind
invariant-loop-kind l = IsDriven l.drive.code.now l.drive.trace l.machine
