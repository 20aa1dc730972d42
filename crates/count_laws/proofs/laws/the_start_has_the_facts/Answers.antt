use Rattle.count_laws.proofs.events.Start.{start_facts}
use Rattle.count_laws.proofs.laws.the_start_has_the_facts.Goals as goal

pub returns : goal.returns
returns c = start_facts
