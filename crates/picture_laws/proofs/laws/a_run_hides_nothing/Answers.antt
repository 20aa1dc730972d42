use Rattle.picture_laws.proofs.Runs.{hides_nothing, tells_all_states}
use Rattle.picture_laws.proofs.laws.a_run_hides_nothing.Goals as goal

pub returns-clause-entries : goal.returns-clause-entries
returns-clause-entries c = hides_nothing

pub returns-clause-states : goal.returns-clause-states
returns-clause-states c = tells_all_states
