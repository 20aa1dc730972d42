use Rattle.machine_examples.proofs.RootsRuns.{a_held_object_stays}
use Rattle.machine_examples.proofs.examples.a_held_object_stays.Goals as goal

pub returns : goal.returns
returns c = a_held_object_stays
