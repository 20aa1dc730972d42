use Rattle.count_laws.proofs.letters.OwnLetters.{events_keep_own, runs_name_own, start_names_own}
use Rattle.count_laws.proofs.laws.letters_name_their_own.Goals as goal

pub returns-clause-start : goal.returns-clause-start
returns-clause-start c = start_names_own

pub returns-clause-event : goal.returns-clause-event
returns-clause-event c = events_keep_own

pub returns-clause-run : goal.returns-clause-run
returns-clause-run c = runs_name_own
