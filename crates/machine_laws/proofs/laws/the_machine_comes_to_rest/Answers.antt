use Rattle.machine_laws.proofs.ComesToRest.{rests_between_choices, event_leaves_less}
use Rattle.machine_laws.proofs.GetsWork.{deep_needs_no_get}
use Rattle.machine_laws.proofs.laws.the_machine_comes_to_rest.Goals as goal

pub returns-clause-less : goal.returns-clause-less
returns-clause-less c = event_leaves_less

pub returns-clause-run : goal.returns-clause-run
returns-clause-run c = rests_between_choices

pub returns-clause-deep : goal.returns-clause-deep
returns-clause-deep c = deep_needs_no_get
