use Rattle.machine_examples.proofs.SmallRuns.{the_first_leaves_at_once}
use Rattle.machine_examples.proofs.examples.the_first_leaves_at_once.Goals as goal

pub returns : goal.returns
returns c = the_first_leaves_at_once
