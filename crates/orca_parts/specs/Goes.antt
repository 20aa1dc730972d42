-- What a turn that was found asks of the machine.
use Rattle.std.specs.Prelude.{ℕ, ◌≡◌, ◌+◌, ◌<◌, ◌≤◌, ◌^◌, ⊤, true, is_some, List, [], ◌∷◌, ◌++◌, length, None, Some, IsSome, IsSomeAnd, vec_capacity, vec_len}
use Rattle.std.specs.FinMap as m
use Rattle.orca_names.specs.declared.limits.TheConstants.{ACTORS_LIMIT, BODY_LIMIT}
use Rattle.orca_names.specs.declared.names.Thing.TheVariants.{Actor}
use Rattle.orca_names.specs.declared.options.Options.{Options}
use Rattle.behaviour_code.specs.declared.code.Program.{Program}
use Rattle.turn_rules.specs.declared.act.Frame.{Frame}
use Rattle.letter_kinds.specs.Letters.{Inc}
use Rattle.letter_kinds.specs.Telling.{Told}
use Rattle.block_table.specs.Blocks.{Blocks}
use Rattle.orca_parts.specs.Blocks.{AreKept, HasBlocksFor}
use Rattle.machine_rules.specs.Actors.{push_letter, seat, seat_at}
use Rattle.turn_rules.specs.Segment.{Turn}
use Rattle.machine_rules.specs.Cell.{fresh_cell}
use Rattle.machine_rules.specs.State.{State}
use Rattle.actor_cell.specs.declared.cell.Cell.{Cell}
use Rattle.actor_cell.specs.Moves.{Move, Post, Mint, New, Print, End, Rest, act_in}
use Rattle.actor_cell.specs.declared.turning.Turned.{Turned}
use Rattle.actor_cell.specs.Cells.{as_cell}
use Rattle.actor_cell.specs.Goes.{CanMove, IsTold, new_entries, out_of}
use Rattle.actor_cell.specs.Tells.{told_out}
use Rattle.actor_table.specs.declared.slot.Slot.{Slot}
use Rattle.actor_table.specs.declared.slot.Place.TheVariants.{Home}
use Rattle.actor_table.specs.Slots.{actors_of, slot_at}
use Rattle.orca_parts.specs.declared.parts.Parts.{Parts}

-- an actor that is present has room for a letter
abbrev pub HasRoomForOne : ℕ → List Slot → Type 0
HasRoomForOne to slots =
    is_some (seat_at (actors_of slots) to) ≡ true → 0 < (slot_at slots to).mail.spare

-- there is room for what the act gives out
abbrev pub HasRoomOut : Move → Parts → Type 0
HasRoomOut (Post to letter) m = HasRoomForOne to m.table.slots × IsSome m.turned.room
HasRoomOut (Mint owner things) m = HasRoomForOne owner m.table.slots
HasRoomOut (New kind register) m =
    (length m.table.slots < ACTORS_LIMIT) × (0 < m.table.spare)
HasRoomOut (Print value) m = vec_len m.prints < vec_capacity m.prints
HasRoomOut End m = ⊤
HasRoomOut Rest m = ⊤

-- this was found of the turn of the cell, which has a frame, and tells of rows in the blocks of their
-- objects
abbrev pub IsFoundGo : Options → Program → Blocks → ℕ → Turn → Turned → Cell → Type 0
IsFoundGo options program blocks a turn found c =
    IsSomeAnd c.frame (IsTold options program a (as_cell c) turn found.place (act_in found))
    × AreKept blocks (Told (told_out found))

-- this is known of the turn of the cell at home, where it has a frame
abbrev pub IsKnownGo : Options → Program → Blocks → Turn → Turned → Slot → Type 0
IsKnownGo options program blocks turn found x = (c : Cell) → x.place ≡ Home c → IsSome c.frame
    → IsFoundGo options program blocks c.heap.owner turn found c

-- this was found of the actor's turn, and there is room for it
pub record FitsGo (options : Options) (program : Program) (a : ℕ) (found : Turned)
    (m : Parts) : Type 0 where
  pub cell : Cell
  pub home : (slot_at m.table.slots a).place ≡ Home cell
  pub frame : Frame
  pub framed : cell.frame ≡ Some frame
  pub found_is : IsTold options program a (as_cell cell) m.turn found.place (act_in found) frame
  pub few : length m.turn.made ≤ BODY_LIMIT
  pub objects : length m.turn.made ≤ cell.heap.spare
  pub entries : new_entries (act_in found) cell.foreign.entries ≤ cell.foreign.spare
  pub room : HasRoomOut (act_in found) m

-- where what was found makes an actor, fewer are made than there may be
abbrev pub MakesInLimit : Parts → Type 0
MakesInLimit m = IsSome (out_of (act_in m.turned)).made → length m.table.slots < ACTORS_LIMIT

-- where there are blocks, there is memory to tell which of them the rows of the turn get
abbrev pub HasRoomToPlace : Parts → Type 0
HasRoomToPlace m = 0 < length m.blocks → length m.turn.made ≤ vec_capacity m.placed

-- what was found of a turn tells of rows in the blocks of their objects, and there are blocks for those
-- that it makes, and memory to tell which
pub record FitsPlaces (m : Parts) : Type 0 where
  pub kept : AreKept m.blocks (Told (told_out m.turned))
  pub blocks : HasBlocksFor (act_in m.turned) m
  pub room : HasRoomToPlace m

-- the actor's counts and serials allow it, and it holds nothing of the actor that is made next
pub record CountsAllow (a : ℕ) (act : Move) (parts : Parts) (c : Cell) : Type 0 where
  pub can : CanMove a (as_cell c).holdings parts.turn act
  pub serials : c.heap.next + BODY_LIMIT < 2 ^ 64
  pub unnamed : m.get c.foreign.entries (Actor (length parts.table.slots)) ≡ None

-- ---- what becomes of the state

-- once the actor's cell is that after its turn, which made so many objects
abbrev pub given : ℕ → Program → Move → ℕ → State → State
given weight program (Post to letter) made s =
    record s { actors = push_letter to letter s.actors; objects = s.objects + made }
given weight program (Mint owner things) made s =
    record s { actors = push_letter owner (Inc things) s.actors }
given weight program (New kind register) made s = record s {
  actors = s.actors ++ seat (fresh_cell weight program kind) [] ∷ [];
  objects = s.objects + made;
}
given weight program (Print value) made s =
    record s { prints = s.prints ++ value ∷ []; objects = s.objects + made }
given weight program End made s = record s { objects = s.objects + made }
given weight program Rest made s = record s { objects = s.objects + made }
