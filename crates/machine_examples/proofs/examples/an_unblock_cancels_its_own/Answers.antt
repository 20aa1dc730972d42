use Rattle.machine_examples.proofs.SmallRuns.{an_unblock_cancels_its_own}
use Rattle.machine_examples.proofs.examples.an_unblock_cancels_its_own.Goals as goal

pub returns : goal.returns
returns c = an_unblock_cancels_its_own
