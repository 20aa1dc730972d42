use Rattle.seat_hall.proofs.Runs.{books_run}
use Rattle.seat_hall.proofs.laws.books_are_runs.Goals as goal

pub returns : goal.returns
returns c = books_run
