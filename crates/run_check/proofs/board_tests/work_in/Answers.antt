use denote.Param.Send.{sendable}
use Rattle.std.proofs.Crossing.{crosses}
use Rattle.book_hall.proofs.Sending.{hall_send}
use Rattle.run_check.proofs.board_tests.work_in.Goals as goal

pub work-requires-send-B : goal.work-requires-send-B
work-requires-send-B g c κs within = search (sendable, crosses, hall_send) depth 100 fits 100000
