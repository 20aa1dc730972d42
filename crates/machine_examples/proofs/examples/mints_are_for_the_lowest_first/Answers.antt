use Rattle.machine_examples.proofs.SmallRuns.{mints_are_for_the_lowest_first}
use Rattle.machine_examples.proofs.examples.mints_are_for_the_lowest_first.Goals as goal

pub returns : goal.returns
returns c = mints_are_for_the_lowest_first
