use Rattle.count_laws.proofs.bounds.Bounding.{events_open, runs_open}
use Rattle.count_laws.proofs.laws.events_open_one_token.Goals as goal

pub returns-clause-event : goal.returns-clause-event
returns-clause-event c = events_open

pub returns-clause-run : goal.returns-clause-run
returns-clause-run c = runs_open
