-- An actor that is present, as the rules have it.
use Rattle.machine_rules.specs.Actors.{Seat}
use Rattle.actor_cell.specs.Cells.{as_cell}
use Rattle.why_path.specs.declared.seats.Seated.{Seated}

abbrev pub as_seat : Seated → Seat
as_seat s = record { cell = as_cell s.cell.now; mail = s.mail.now.letters }
