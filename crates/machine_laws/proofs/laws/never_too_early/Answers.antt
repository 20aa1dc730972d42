use Rattle.machine_laws.proofs.WholeRuns.{never_too_early as law}
use Rattle.machine_laws.proofs.laws.never_too_early.Goals as goal

pub returns : goal.returns
returns c = law
