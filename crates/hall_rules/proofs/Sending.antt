-- The machine and the book can go to another thread.
use denote.Param.Send.{IsSend, IsSync, enum_send, plain_send, recorded_send, recorded_sync, sendable, shr_send, struct_send, struct_sync, view_send, view_sync}
use denote.Struct.Declared.{shape}
use Rattle.std.proofs.Crossing.{Deque-send, crosses}
use Rattle.turn_rules.specs.contracts.boxed.BoxedFrame as BoxedFrame
use Rattle.turn_rules.specs.contracts.boxed.SpareFrame as SpareFrame
use Rattle.letter_kinds.specs.contracts.letter.Letter as Letter
use Rattle.mail_rows.specs.contracts.row.MailRow as MailRow
use Rattle.actor_cell.specs.contracts.cell.Cell as Cell
use Rattle.actor_table.specs.contracts.slot.Place as Place
use Rattle.actor_table.specs.contracts.slot.Slot as Slot
use Rattle.actor_table.specs.contracts.table.ActorTable as ActorTable
use Rattle.actor_cell.specs.contracts.turning.Turned as Turned
use Rattle.actor_cell.specs.contracts.sweeping.Sweep as Sweep
use Rattle.turn_step.specs.contracts.turn.Turn as Turn
use Rattle.block_table.specs.contracts.table.BlockTable as BlockTable
use Rattle.cycle_detect.specs.contracts.detector.Detector as Detector
use Rattle.orca_core.specs.contracts.machine.Orca as Orca
use Rattle.run_book.specs.contracts.book.Book as Book
use Rattle.orca_parts.specs.contracts.parts.Parts as Parts
use Rattle.behaviour_check.specs.contracts.checked.Checked as Checked
use Rattle.behaviour_code.specs.contracts.code.Behaviour as Behaviour
use Rattle.behaviour_code.specs.contracts.code.Kind as Kind
use Rattle.behaviour_code.specs.contracts.code.Program as Program
use Rattle.behaviour_code.specs.contracts.instr.Instr as Instr
use Rattle.letter_kinds.specs.contracts.note.Note as Note
use Rattle.detector_tokens.specs.contracts.token.Token as Token

frame_send : IsSend BoxedFrame.the_row
frame_send = search (sendable, crosses) depth 100 fits 100000

spare_send : IsSend SpareFrame.the_row
spare_send = search (sendable, crosses) depth 100 fits 100000

pub cell_send : IsSend (Cell.the_field).row
cell_send = search (sendable, crosses, frame_send, spare_send) depth 100 fits 100000

place_send : IsSend (Place.the_field).row
place_send = search (sendable, crosses, cell_send) depth 100 fits 100000

letter_send : IsSend Letter.the_row
letter_send = search (sendable, crosses) depth 100 fits 100000

mail_send : IsSend MailRow.the_row
mail_send = search (sendable, crosses, letter_send) depth 100 fits 100000

pub both : {A B : Type 0} → A → B → A × B
both a b = (a, b)

slot_send : IsSend (Slot.the_field).row
slot_send = struct_send (shape Slot.the_type) (place_send, (mail_send, tt))

table_send : IsSend ActorTable.the_row
table_send = search (sendable, crosses, slot_send, spare_send) depth 100 fits 100000

note_send : IsSend Note.the_row
note_send = search (sendable, crosses) depth 100 fits 100000

token_send : IsSend Token.the_row
token_send = search (sendable, crosses) depth 100 fits 100000

detector_send : IsSend Detector.the_row
detector_send = search (sendable, crosses) depth 100 fits 100000

blocks_send : IsSend BlockTable.the_row
blocks_send = search (sendable, crosses) depth 100 fits 100000

turn_send : IsSend Turn.the_row
turn_send = search (sendable, crosses) depth 100 fits 100000

pub turned_send : IsSend (Turned.the_field).row
turned_send = search (sendable, crosses) depth 100 fits 100000

pub sweep_send : IsSend (Sweep.the_field).row
sweep_send = search (sendable, crosses) depth 100 fits 100000

instr_sync : IsSync Instr.the_row
instr_sync = search (sendable, crosses) depth 100 fits 100000

behaviour_sync : IsSync Behaviour.the_row
behaviour_sync = search (sendable, crosses, instr_sync) depth 100 fits 100000

kind_sync : IsSync Kind.the_row
kind_sync = search (sendable, crosses, behaviour_sync) depth 100 fits 100000

program_sync : IsSync (Program.the_field).row
program_sync = struct_sync (shape Program.the_type) (search (sendable, crosses, kind_sync) depth 100 fits 100000, (search (sendable, crosses) depth 100 fits 100000, tt))

pub checked_sync : IsSync Checked.the_row
checked_sync = search (view_sync, recorded_sync, struct_sync, both, tt, program_sync) depth 100 fits 100000

parts_send : IsSend (Parts.the_field).row
parts_send = struct_send (shape Parts.the_type) (table_send, (detector_send, (search (note_send, Deque-send), (search (sendable, crosses) depth 20, (search sendable, (blocks_send, (turn_send, (turned_send, (search (sendable, crosses) depth 20, (sweep_send, (search (sendable, crosses, letter_send) depth 40, (search (sendable, note_send) depth 20, (search (sendable, token_send) depth 20, (search (sendable, crosses) depth 20, tt))))))))))))))

pub orca_send : (l : _) → IsSend (Orca.the_row l)
orca_send l = search (view_send, recorded_send, struct_send, shr_send, plain_send, enum_send, sendable, both, tt, parts_send, checked_sync) depth 100 fits 100000

pub book_send : IsSend Book.the_row
book_send = search (sendable, crosses) depth 100 fits 100000
