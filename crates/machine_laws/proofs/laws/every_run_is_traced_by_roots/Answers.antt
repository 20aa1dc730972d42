use Rattle.machine_laws.proofs.AtQuiet.{traced_by_roots}
use Rattle.machine_laws.proofs.laws.every_run_is_traced_by_roots.Goals as goal

pub returns : goal.returns
returns c = traced_by_roots
