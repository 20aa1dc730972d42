-- The book is a run, and what is not needed is gone after it.
use Rattle.machine_examples.proofs.ExampleRuns.{an_object_is_passed_on_and_goes}
use Rattle.machine_examples.proofs.examples.an_object_is_passed_on_and_goes.Goals as goal

pub returns : goal.returns
returns c = an_object_is_passed_on_and_goes
