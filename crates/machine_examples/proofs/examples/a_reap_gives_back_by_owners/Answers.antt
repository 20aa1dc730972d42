use Rattle.machine_examples.proofs.SmallRuns.{a_reap_gives_back_by_owners}
use Rattle.machine_examples.proofs.examples.a_reap_gives_back_by_owners.Goals as goal

pub returns : goal.returns
returns c = a_reap_gives_back_by_owners
