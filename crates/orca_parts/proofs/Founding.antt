-- What was found of an actor before its event came.
use Rattle.std.proofs.Common.{◌≡◌, ◌≤◌, ◌<◌, ℕ, true, false, refl, List, [], ◌∷◌, length, slice_get, Option, Some, None, ap, subst, sym, ◌∙◌, arith}
use Rattle.std.specs.Prelude.{IsSome, IsSomeAnd, ⊤}
use Rattle.orca_names.specs.declared.names.Thing.{Thing}
use Rattle.orca_names.specs.declared.options.Options.{Options}
use Rattle.behaviour_code.specs.WellFormed.{IsWellFormed}
use Rattle.behaviour_code.specs.declared.code.Program.{Program}
use Rattle.turn_rules.proofs.Bounds.{segment_makes}
use Rattle.turn_rules.specs.Segment.{Turn}
use Rattle.turn_rules.specs.declared.act.Frame.{Frame}
use Rattle.machine_rules.specs.Cell as rules
use Rattle.machine_rules.specs.Go.{needed, setting_of, turn_of_cell}
use Rattle.machine_rules.specs.Guards.{may_go}
use Rattle.actor_cell.specs.declared.cell.Cell.{Cell}
use Rattle.actor_cell.specs.Awaiting.{AwaitsAt}
use Rattle.actor_cell.specs.Moves.{act_in}
use Rattle.actor_cell.specs.declared.turning.Turned.{Turned}
use Rattle.actor_cell.specs.Cells.{as_cell}
use Rattle.actor_cell.specs.Goes as goes
use Rattle.actor_cell.specs.Goes.{IsTold, turned_in, turned_or_needs}
use Rattle.actor_cell.proofs.Telling.{told_made}
use Rattle.letter_kinds.specs.Holdings.{Row}
use Rattle.letter_kinds.specs.Letters.{Letter}
use Rattle.actor_table.specs.declared.slot.Slot.{Slot}
use Rattle.actor_table.specs.Changes.{HasCell}
use Rattle.actor_table.specs.declared.slot.Place.TheVariants.{Home}
use Rattle.actor_table.specs.Slots.{Table, slot_at}
use Rattle.orca_parts.specs.Awaiting.{IsAwaited}
use Rattle.orca_parts.specs.Goes.{IsFoundGo}
use Rattle.orca_parts.specs.declared.parts.Parts.{Parts}
use Rattle.orca_parts.proofs.Awaiting.{found_awaited}
use Rattle.event_rule.specs.declared.event.Event.{Event}
use Rattle.event_rule.specs.declared.event.Event.TheVariants.{Take, Go, Collect, Leave, Block, Hear, Scan, Reap}
use Rattle.actor_cell.specs.declared.found.Found.TheVariants.{Goes}
use Rattle.event_rule.specs.Events.{actor_of}
use Rattle.row_store.specs.Words.{Words}
use Rattle.block_table.specs.Blocks.{Blocks}
use Rattle.letter_kinds.specs.Telling.{HoldsTold, Told}
use Rattle.actor_cell.specs.Tells.{told_out}
use Rattle.orca_parts.specs.Core.{HasFound, HoldsFound}
use Rattle.orca_parts.specs.Founds.{IsFoundFor}
use Rattle.orca_parts.specs.declared.insides.Core.{Core}

-- a turn of a program that is well formed makes few objects
turned_few : (options : Options) (program : Program) (me : ℕ) (c : rules.Cell) (frame : Frame) → IsWellFormed program
    → length (turned_in options program me c frame).turn.made ≤ 1024
turned_few options program me c frame good = by (needed options.trace program me c frame)
  where
    by : (need : Option Thing) → length (turned_or_needs options me c frame need (turn_of_cell options.trace program me c frame)).turn.made ≤ 1024
    by None = segment_makes (setting_of options.trace program me c) frame c.fields good
    by (Some x) = omega arith

pub found_few : (options : Options) (program : Program) (blocks : Blocks) (me : ℕ) (turn : Turn) (turned : Turned) (c : Cell) → IsWellFormed program
    → IsFoundGo options program blocks me turn turned c → length turn.made ≤ 1024
found_few options program blocks me turn turned c good is = by c.frame is.0
  where
    by : (frame : Option Frame) → IsSomeAnd frame (IsTold options program me (as_cell c) turn turned.place (act_in turned)) → length turn.made ≤ 1024
    by None found = absurd found
    by (Some frame) found =
        subst (λ (made : List Row). length made ≤ 1024) (ap (λ (t : goes.Turned). t.turn.made) found ∙ told_made frame (as_cell c) turn turned.place (act_in turned))
        (turned_few options program me (as_cell c) frame good)

-- who may go has a frame
pub goes_framed : (c : Cell) (letters : List Letter) → may_go (as_cell c) letters ≡ true → IsSome c.frame
goes_framed c letters on = on

-- what was found of a cell is that of its actor
pub found_at : (options : Options) (program : Program) (blocks : Blocks) (a : ℕ) (turn : Turn) (found : Turned) (x : Slot) (c : Cell) → x.place ≡ Home c → c.heap.owner ≡ a
    → IsFoundGo options program blocks c.heap.owner turn found c → HasCell x (IsFoundGo options program blocks a turn found)
found_at options program blocks a turn found x c home its is = record { cell = c; home = home; so = subst (λ me. IsFoundGo options program blocks me turn found c) its is }

-- and stands well
pub awaited_at : (options : Options) (program : Program) (a : ℕ) (m : Parts) (c : Cell) → (slot_at m.table.slots a).place ≡ Home c → c.heap.owner ≡ a
    → AwaitsAt options.trace program c.heap.owner (as_cell c) m.turn m.turned → IsAwaited options.trace program m
awaited_at options program a m c home its is =
    found_awaited options.trace program a m (record { cell = c; home = home; so = subst (λ me. AwaitsAt options.trace program me (as_cell c) m.turn m.turned) its is })

-- a list that has something is not empty
pub has_some : {X : Type 0} (xs : List X) (k : ℕ) (x : X) → slice_get xs k ≡ Some x → 0 < length xs
has_some [] k x is = cc
has_some (y ∷ xs) k x is = omega arith

-- a turn that was found elsewhere is known once it stands in the machine
pub turn_known : (e : Event) (m : Core) (turn : Turn) (turned : Turned) → IsFoundFor m.options m.code.now m.parts.blocks (Goes turn turned) e m.parts.table.slots
    → HasFound e (record m { parts = record m.parts { turn = turn; turned = turned }; stands = false })
turn_known (Take a) m turn turned its = tt
turn_known (Go a) m turn turned its = λ c home framed. its a refl c home
turn_known (Collect a) m turn turned its = λ c home rests dirty. absurd (subst (λ f. IsSomeAnd f (λ _. ⊤)) rests (framed_of _ c.frame (its a refl c home).0))
  where
    framed_of : (P : Frame → Type 0) (f : Option Frame) → IsSomeAnd f P → IsSomeAnd f (λ _. ⊤)
    framed_of P None is = is
    framed_of P (Some frame) is = tt
turn_known (Leave a) m turn turned its = tt
turn_known (Block a) m turn turned its = tt
turn_known Hear m turn turned its = tt
turn_known Scan m turn turned its = tt
turn_known (Reap number) m turn turned its = tt

-- the words that hold what was found elsewhere hold what stands in the machine then
pub turn_held : (known : Words) (e : Event) (m : Core) (turn : Turn) (turned : Turned) (after : Core) → after.parts.turned ≡ turned → after.parts.table ≡ m.parts.table
    → IsFoundFor m.options m.code.now m.parts.blocks (Goes turn turned) e m.parts.table.slots
    → (0 < length m.parts.blocks → HoldsTold known (Told (told_out turned))) → HoldsFound known e after
turn_held known (Take a) m turn turned after is table its holds = tt
turn_held known (Go a) m turn turned after is table its holds = λ c home framed n row block here.
    let told = subst (λ t. Told (told_out t) n row block) is here in
    let there = (its a refl c (ap (λ (t : Table). (slot_at t.slots a).place) (sym table) ∙ home)).1 n row block told in
    holds (has_some m.parts.blocks block (Some n) there) n row block told
turn_held known (Collect a) m turn turned after is table its holds = tt
turn_held known (Leave a) m turn turned after is table its holds = tt
turn_held known (Block a) m turn turned after is table its holds = tt
turn_held known Hear m turn turned after is table its holds = tt
turn_held known Scan m turn turned after is table its holds = tt
turn_held known (Reap number) m turn turned after is table its holds = tt

-- nothing that has no frame was found to go
pub rests_held : (known : Words) (e : Event) (m : Core)
    → ((a : ℕ) → actor_of e ≡ Some a → (c : Cell) → (slot_at m.parts.table.slots a).place ≡ Home c → c.frame ≡ None) → HoldsFound known e m
rests_held known (Take a) m rests = tt
rests_held known (Go a) m rests = λ c home framed. absurd (no_frame (rests a refl c home) framed)
  where
    no_frame : {f : Option Frame} → f ≡ None → IsSome f → ⊥
    no_frame is some = let z = subst IsSome is some in cc
rests_held known (Collect a) m rests = tt
rests_held known (Leave a) m rests = tt
rests_held known (Block a) m rests = tt
rests_held known Hear m rests = tt
rests_held known Scan m rests = tt
rests_held known (Reap number) m rests = tt
