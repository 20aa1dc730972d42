use Rattle.seat_hall.proofs.Entries.{stand_once}
use Rattle.seat_hall.proofs.laws.entries_stand_once.Goals as goal

pub returns : goal.returns
returns c = stand_once
