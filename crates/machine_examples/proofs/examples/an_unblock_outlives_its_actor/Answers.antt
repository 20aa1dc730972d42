use Rattle.machine_examples.proofs.FurtherRuns.{an_unblock_outlives_its_actor}
use Rattle.machine_examples.proofs.examples.an_unblock_outlives_its_actor.Goals as goal

pub returns : goal.returns
returns c = an_unblock_outlives_its_actor
