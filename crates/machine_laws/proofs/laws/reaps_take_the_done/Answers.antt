use Rattle.machine_laws.proofs.Done.{reaps_take_the_done, runs_reap_the_done}
use Rattle.machine_laws.proofs.laws.reaps_take_the_done.Goals as goal

pub returns-clause-state : goal.returns-clause-state
returns-clause-state c = reaps_take_the_done

pub returns-clause-run : goal.returns-clause-run
returns-clause-run c = runs_reap_the_done
