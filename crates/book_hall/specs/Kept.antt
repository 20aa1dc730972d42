-- What holds of the plain hall at every moment.
use Rattle.std.specs.Prelude.{◌≤◌, length}
use Rattle.machine_rules.specs.Run.{IsRun}
use Rattle.hall_rules.specs.Halls.{HallValue, hall_state}

-- the book is a run of the program, with at most as many entries as the budget
pub record HasRun (h : HallValue) : Type 0 where
  pub run : IsRun h.program h.options h.book (hall_state h)
  pub within : length h.book ≤ h.budget
