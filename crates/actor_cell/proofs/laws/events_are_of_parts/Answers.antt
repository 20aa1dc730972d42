use Rattle.actor_cell.proofs.GoParts.{gone}
use Rattle.actor_cell.proofs.Parts.{blocks, collects, leaves, takes}
use Rattle.actor_cell.proofs.laws.events_are_of_parts.Goals as goal

pub returns-clause-take : goal.returns-clause-take
returns-clause-take c = takes

pub returns-clause-collect : goal.returns-clause-collect
returns-clause-collect c = collects

pub returns-clause-leave : goal.returns-clause-leave
returns-clause-leave c = leaves

pub returns-clause-block : goal.returns-clause-block
returns-clause-block c = blocks

pub returns-clause-go : goal.returns-clause-go
returns-clause-go c = gone
