use Rattle.count_laws.proofs.events.Acting.{takes_keep, goes_keep, collects_keep, leaves_keep}
use Rattle.count_laws.proofs.laws.take_go_and_collect_keep_the_facts.Goals as goal

pub returns-clause-take : goal.returns-clause-take
returns-clause-take c = takes_keep

pub returns-clause-go : goal.returns-clause-go
returns-clause-go c = goes_keep

pub returns-clause-collect : goal.returns-clause-collect
returns-clause-collect c = collects_keep

pub returns-clause-leave : goal.returns-clause-leave
returns-clause-leave c = leaves_keep
