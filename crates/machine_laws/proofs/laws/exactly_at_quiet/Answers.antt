use Rattle.machine_laws.proofs.AtQuiet.{exactly_at_quiet as deep, quiet_by_roots}
use Rattle.machine_laws.proofs.laws.exactly_at_quiet.Goals as goal

pub returns-clause-deep : goal.returns-clause-deep
returns-clause-deep c = deep

pub returns-clause-roots : goal.returns-clause-roots
returns-clause-roots c = quiet_by_roots
