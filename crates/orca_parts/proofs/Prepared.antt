-- A turn that was found, and what it takes to be prepared.
use Rattle.std.proofs.Common.{◌≡◌, ◌≤◌, ℕ, true, false, List, length, get_or, Option, None, Some, refl, sym, ap, subst, ◌∙◌, []}
use Rattle.std.specs.Prelude.{IsSomeAnd, is_some}
use Rattle.std.specs.Global.{Vec}
use Rattle.block_table.specs.Blocks.{Blocks}
use Rattle.std.specs.Option.{option_map_or}
use Rattle.actor_table.proofs.Telling.{still_told}
use Rattle.std.proofs.lemmas.Bool.{false≢true}
use Rattle.orca_names.specs.declared.limits.TheConstants.{BODY_LIMIT}
use Rattle.behaviour_code.specs.declared.code.Program.{Program}
use Rattle.turn_rules.specs.Segment.{Turn}
use Rattle.turn_rules.specs.declared.act.Frame.{Frame}
use Rattle.letter_kinds.specs.Letters.{Letter}
use Rattle.machine_rules.specs.Actors.{Seat, seat, seat_at}
use Rattle.machine_rules.specs.Cell as rules
use Rattle.orca_names.specs.declared.options.Options.{Options}
use Rattle.actor_cell.specs.declared.cell.Cell.{Cell}
use Rattle.actor_cell.specs.Moves.{act_in}
use Rattle.actor_cell.specs.declared.turning.Turned.{Turned}
use Rattle.actor_cell.specs.Cells.{as_cell}
use Rattle.actor_cell.specs.Finding.{HasRoomToMove}
use Rattle.actor_cell.specs.Goes.{IsTold, told, turned_in}
use Rattle.actor_table.specs.declared.slot.Slot.{Slot}
use Rattle.actor_table.specs.declared.slot.Place.{Place}
use Rattle.actor_table.specs.declared.slot.Place.TheVariants.{Home, Away, Gone}
use Rattle.actor_table.specs.Changes.{HasCell}
use Rattle.actor_table.specs.Slots.{Table, actors_of, away_of, is_away, is_away_in, places_of, seat_in, slot_at}
use Rattle.actor_table.proofs.Changing.{away_read, seat_read}
use Rattle.std.specs.declared.result.Result.{Result}
use Rattle.event_rule.specs.declared.event.Event.{Event}
use Rattle.orca_parts.specs.Ready.{Prepares}
use Rattle.orca_parts.specs.declared.fault.StepFault.{StepFault}
use Rattle.orca_parts.specs.declared.insides.Core.{Core}
use Rattle.orca_parts.specs.Core.{KeepsCore}
use Rattle.orca_parts.proofs.Homes.{place_read}
use Rattle.orca_parts.specs.Fits.{OnlyRoom}
use Rattle.orca_parts.specs.Goes.{FitsGo, HasRoomOut, IsFoundGo}
use Rattle.orca_parts.specs.Parts.{state_of}
use Rattle.orca_parts.specs.declared.parts.Parts.{Parts}
use Rattle.orca_parts.proofs.Giving.{seat_here}
use Rattle.actor_table.specs.Telling.{TableLies, TableTells}
use Rattle.letter_kinds.proofs.Telling.{tells_then}
use Rattle.letter_kinds.specs.Telling.{TellsOnly}

-- an actor that is present and not away has its cell at home
home_in : (place : Place) (letters : List Letter) → is_some (seat_in place letters) ≡ true
    → is_away_in place ≡ false → (y : Cell) × (place ≡ Home y)
home_in (Home y) letters there home = (y, refl)
home_in (Away y) letters there home = absurd (false≢true (sym home))
home_in Gone letters there home = absurd (false≢true there)

pub at_home : (slots : List Slot) (a : ℕ) (c : rules.Cell) (mail : List Letter) → seat_at (actors_of slots) a ≡ seat c mail
    → is_away (slot_at slots a) ≡ false → HasCell (slot_at slots a) (λ x. as_cell x ≡ c)
at_home slots a c mail there home =
    let x = slot_at slots a in
    let seated = sym (seat_read slots a) ∙ there in
    let found = home_in x.place x.mail.letters (ap is_some seated) home in
    record {
      cell = found.0;
      home = found.1;
      so = ap (λ o. option_map_or (λ (s : Seat). s.cell) o c) (sym (ap (λ p. seat_in p x.mail.letters) found.1) ∙ seated);
    }

-- ---- one after another

pub only_room_then : (one two three : Parts) → OnlyRoom one two → OnlyRoom two three → OnlyRoom one three
only_room_then one two three first second =
    record {
      state = λ p o. second.state p o ∙ first.state p o;
      away = second.away ∙ first.away;
      told = tells_then (TableTells one.table.slots) (TableTells two.table.slots) (TableTells three.table.slots) [] first.told second.told;
      lie = λ lies. second.lie (first.lie lies);
      blocks = second.blocks ∙ first.blocks;
    }

pub keeps_then : (one two three : Core) → KeepsCore one two → KeepsCore two three → KeepsCore one three
keeps_then one two three first second = record {
  alike = record { code = second.alike.code ∙ first.alike.code; options = second.alike.options ∙ first.alike.options };
  room = only_room_then one.parts two.parts three.parts first.room second.room;
}

-- the table has more room, and the room for a turn is used
pub table_room : (m : Parts) (table : Table) (turn : Turn) → actors_of table.slots ≡ actors_of m.table.slots → away_of table.slots ≡ away_of m.table.slots
    → TellsOnly (TableTells m.table.slots) [] (TableTells table.slots) → (TableLies m.table.slots → TableLies table.slots)
    → OnlyRoom m (record m { table = table; turn = turn })
table_room m table turn actors away told lie =
    record { state = λ p o. ap (λ xs. record (state_of p o m) { actors = xs }) actors; away = away; told = told; lie = lie; blocks = refl }

-- there is memory to tell which blocks rows get
pub placed_room : (m : Parts) (placed : Vec ℕ) → OnlyRoom m (record m { placed = placed })
placed_room m placed = record { state = λ p o. refl; away = refl; told = still_told m.table.slots; lie = λ lies. lies; blocks = refl }

pub prepared_then : {T : Type 0} (e : Event) (core new : Core) (placed : Vec ℕ) (result : Result T StepFault)
    → Prepares e (record core { parts = record core.parts { placed = placed } }) new result → Prepares e core new result
prepared_then e core new placed result prepares = record {
  same = record {
    alike = record { code = prepares.same.alike.code; options = prepares.same.alike.options };
    room = only_room_then core.parts (record core.parts { placed = placed }) new.parts (placed_room core.parts placed) prepares.same.room;
  };
  ok = prepares.ok;
  fault = prepares.fault;
  stands = prepares.stands;
}

-- what was found fits, once the memory was taken
module _ (options : Options) (program : Program) (a : ℕ) (found : Turned) (old : List Slot) (turn : Turn) (mid : List Slot) (m : Parts) where
  -- where its cell is at home, there is room for what was found
  abbrev HasRoomToGo : Slot → Type 0
  HasRoomToGo x = (y : Cell) → x.place ≡ Home y → HasRoomToMove turn (act_in found) y

  fits_with : (c : Cell) → (slot_at old a).place ≡ Home c → (frame : Frame) → c.frame ≡ Some frame
      → IsTold options program a (as_cell c) turn found.place (act_in found) frame
      → (x : Cell) → (slot_at mid a).place ≡ Home x → as_cell x ≡ as_cell c
      → HasRoomToGo (slot_at mid a) → places_of m.table.slots ≡ places_of mid → m.turn ≡ turn
      → HasRoomOut (act_in found) m → length turn.made ≤ BODY_LIMIT
      → FitsGo options program a found m
  fits_with c home frame framed is x at same room places kept out few =
      let sizes = room x at in
      record {
        cell = x;
        home = sym (place_read m.table.slots a) ∙ ap (λ ps. get_or ps a Gone) places ∙ place_read mid a ∙ at;
        frame = frame;
        framed = ap (λ (y : rules.Cell). y.frame) same ∙ framed;
        found_is = ap (λ y. turned_in options program a y frame) same ∙ is ∙ (λ i. told frame (sym same i) (sym kept i) found.place (act_in found));
        few = subst (λ (t : Turn). length t.made ≤ BODY_LIMIT) (sym kept) few;
        objects = subst (λ (t : Turn). length t.made ≤ x.heap.spare) (sym kept) sizes.0;
        entries = sizes.1;
        room = out;
      }

  pub fits_go : (blocks : Blocks) → HasCell (slot_at old a) (IsFoundGo options program blocks a turn found)
      → actors_of mid ≡ actors_of old → away_of mid ≡ away_of old
      → HasRoomToGo (slot_at mid a) → places_of m.table.slots ≡ places_of mid → m.turn ≡ turn
      → HasRoomOut (act_in found) m → length turn.made ≤ BODY_LIMIT
      → FitsGo options program a found m
  fits_go blocks cell actors away room places kept out few =
      let c = cell.cell in
      let home : is_away (slot_at mid a) ≡ false =
      sym (away_read mid a) ∙ ap (λ bs. get_or bs a false) away ∙ away_read old a ∙ ap is_away_in cell.home in
      let x = at_home mid a (as_cell c) (slot_at old a).mail.letters (ap (λ xs. seat_at xs a) actors ∙ seat_here old a c cell.home) home in
      by c.frame refl cell.so.0 x
    where
      by : (f : Option Frame) → cell.cell.frame ≡ f
          → IsSomeAnd f (IsTold options program a (as_cell cell.cell) turn found.place (act_in found))
          → HasCell (slot_at mid a) (λ x. as_cell x ≡ as_cell cell.cell) → FitsGo options program a found m
      by None framed is x = absurd is
      by (Some frame) framed is x =
          fits_with cell.cell cell.home frame framed is x.cell x.home x.so room places kept out few
