use Rattle.machine_laws.proofs.Untold.{reaps_leave_none_told, runs_tell_none, untold_stays}
use Rattle.machine_laws.proofs.laws.nothing_is_told_of_the_reaped.Goals as goal

pub returns-clause-reap : goal.returns-clause-reap
returns-clause-reap c = reaps_leave_none_told

pub returns-clause-stays : goal.returns-clause-stays
returns-clause-stays c = untold_stays

pub returns-clause-run : goal.returns-clause-run
returns-clause-run c = runs_tell_none
