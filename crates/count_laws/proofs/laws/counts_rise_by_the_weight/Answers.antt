use Rattle.count_laws.proofs.bounds.Bounding.{events_raise, runs_count}
use Rattle.count_laws.proofs.laws.counts_rise_by_the_weight.Goals as goal

pub returns-clause-event : goal.returns-clause-event
returns-clause-event c = events_raise

pub returns-clause-run : goal.returns-clause-run
returns-clause-run c = runs_count
