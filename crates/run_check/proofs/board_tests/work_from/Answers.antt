use denote.Param.Send.{sendable}
use Rattle.std.proofs.Crossing.{crosses}
use Rattle.seat_hall.proofs.Sending.{pass_send}
use Rattle.run_check.proofs.board_tests.work_from.Goals as goal

pub work-requires-send-B : goal.work-requires-send-B
work-requires-send-B g c κs within = search (sendable, crosses, pass_send) depth 100 fits 100000
