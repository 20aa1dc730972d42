-- A hall, and a pass to one, can go to another thread.
use denote.Param.Send.{IsSend, plain_send, recorded_send, sendable, shr_send, struct_send, view_send}
use Rattle.std.proofs.Crossing.{crosses}
use Rattle.hall_rules.proofs.Sending.{book_send, both, checked_sync, orca_send}
use Rattle.book_hall.specs.contracts.claims.Claims as Claims
use Rattle.book_hall.specs.contracts.hall.Hall as Hall

claims_send : IsSend Claims.the_row
claims_send = search (sendable, crosses) depth 100 fits 100000

pub hall_send : (l : _) → IsSend (Hall.the_row l)
hall_send l = search (view_send, recorded_send, struct_send, shr_send, plain_send, both, tt, orca_send, checked_sync, book_send, claims_send) depth 100 fits 100000
