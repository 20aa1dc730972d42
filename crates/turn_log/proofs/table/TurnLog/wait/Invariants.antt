use Rattle.std.proofs.Common.{◌≡◌}
use Rattle.turn_log.specs.Seats.{IsSame}
use Rattle.turn_log.proofs.table.TurnLog.wait.Given as goal

abbrev pub invariant-loop : goal.invariant-loop
invariant-loop g l = IsSame l.initial.seat l.seat × (l.seat.me ≡ l.initial.seat.me)
