use Rattle.machine_examples.proofs.RootsRuns.{a_got_object_is_minted}
use Rattle.machine_examples.proofs.examples.a_got_object_is_minted.Goals as goal

pub returns : goal.returns
returns c = a_got_object_is_minted
