-- A hall whose cells move out, and a pass to it, can go to another thread.
use denote.Param.Send.{IsSend, recorded_send, sendable, shr_send, struct_send, view_send}
use denote.Struct.Declared.{shape}
use Rattle.std.proofs.Crossing.{crosses}
use Rattle.atomic_table.proofs.shared.Seat.TheSendSync.{the_send as seat_send}
use Rattle.turn_log.proofs.table.TurnLog.TheSendSync.{the_sync as log_sync}
use Rattle.hall_rules.proofs.Sending.{book_send, cell_send, checked_sync, orca_send, sweep_send, turned_send}
use Rattle.actor_cell.specs.contracts.found.Found as Found
use Rattle.seat_hall.specs.contracts.board.SeatPass as SeatPass
use Rattle.seat_hall.specs.contracts.hall.Hall as Hall
use Rattle.seat_hall.specs.contracts.hall.Hall.TheInside as inside
use Rattle.seat_hall.specs.contracts.item.Item as Item
use Rattle.seat_hall.specs.contracts.rooms.CellRoom as CellRoom
use Rattle.seat_hall.specs.contracts.rooms.Rooms as Rooms

item_send : IsSend (Item.the_field).row
item_send = search (sendable, crosses) depth 100 fits 100000

room_send : IsSend CellRoom.the_row
room_send = search (sendable, crosses, cell_send) depth 100 fits 100000

rooms_send : IsSend Rooms.the_row
rooms_send = search (sendable, crosses, room_send) depth 100 fits 100000

fields_send : (l : _) → IsSend (inside.the_field l).row
fields_send l = struct_send (shape (inside.the_type l)) (search (shr_send, checked_sync) depth 20, (search sendable, (orca_send l, (book_send, (search (sendable, crosses) depth 40, (rooms_send, (search sendable, (search sendable, (item_send, tt)))))))))

hall_send : (l : _) → IsSend (Hall.the_row l)
hall_send l = search (view_send, recorded_send, fields_send) depth 20

found_send : IsSend (Found.the_field).row
found_send = search (sendable, crosses, turned_send, sweep_send) depth 100 fits 100000

pub pass_send : (h l : _) → IsSend (SeatPass.the_row h l)
pass_send h l = search (sendable, crosses, hall_send, log_sync, seat_send, found_send) depth 100 fits 100000
