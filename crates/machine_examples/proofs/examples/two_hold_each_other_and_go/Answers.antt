-- The book is a run, and what is not needed is gone after it.
use Rattle.machine_examples.proofs.ExampleRuns.{two_hold_each_other_and_go}
use Rattle.machine_examples.proofs.examples.two_hold_each_other_and_go.Goals as goal

pub returns : goal.returns
returns c = two_hold_each_other_and_go
