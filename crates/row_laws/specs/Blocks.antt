-- Which block each object's row has.
use Rattle.std.specs.Prelude.{ℕ, ◌+◌, ◌-◌, ◌<◌, ◌≤◌, ◌≡◌, ◌==◌, ◌&&◌, Bool, false, not, if◌then◌else◌, List, [], ◌∷◌, length, map, slice_get, Option, Some, None}
use Rattle.std.specs.FinMap as m
use Rattle.std.specs.Option.{option_map_or}
use Rattle.orca_names.specs.declared.names.ObjName.{ObjName}
use Rattle.orca_names.specs.declared.names.Thing.TheVariants.{Obj}
use Rattle.orca_names.specs.declared.trace.Trace.{Trace}
use Rattle.block_table.specs.Blocks.{OneBlockEach, Blocks, count_free, fill, free_blocks, names_from}
use Rattle.behaviour_code.specs.declared.code.Program.{Program}
use Rattle.event_rule.specs.Runs.{Goes}
use Rattle.event_rule.specs.declared.event.Event.{Event}
use Rattle.event_rule.specs.declared.event.Event.TheVariants.{Collect, Go, Leave, Reap}
use Rattle.letter_kinds.specs.Counting.{sweep}
use Rattle.letter_kinds.specs.Detector.{Token, has}
use Rattle.letter_kinds.specs.Holdings.{has_own}
use Rattle.machine_rules.specs.Actors.{Actors, Seat, seat_at}
use Rattle.machine_rules.specs.Collect.{is_marked}
use Rattle.machine_rules.specs.Detect.{acked_token}
use Rattle.machine_rules.specs.Left.{IsLeft}
use Rattle.machine_rules.specs.Next.{next}
use Rattle.machine_rules.specs.Options.{Options}
use Rattle.machine_rules.specs.State.{State, first_state}

-- ---- the objects that an event makes

-- the serial that the actor's next object gets
abbrev pub next_at : Actors → ℕ → ℕ
next_at actors a = option_map_or (λ o. o.cell.holdings.next) (seat_at actors a) 0

-- the objects that an event makes on its way from a state to another, in their order: a go alone
-- makes any
abbrev pub made_by : State → Event → State → List ObjName
made_by s (Go a) t = names_from a (next_at s.actors a) (t.objects - s.objects)
made_by s e t = []

-- ---- the blocks after an event

-- its owner is present and has it
abbrev pub is_left : Actors → ObjName → Bool
is_left actors n =
    option_map_or (λ o. has_own o.cell.holdings (Obj n)) (seat_at actors n.owner) false

-- what is left keeps its block
abbrev pub kept_of : Actors → Option ObjName → Option ObjName
kept_of actors None = None
kept_of actors (Some n) = if is_left actors n then Some n else None

-- what is left keeps its block, and what the event made takes those that are free then
abbrev pub blocks_after : State → Event → State → Blocks → Blocks
blocks_after s e t blocks = fill (made_by s e t) (map (kept_of t.actors) blocks)

-- ---- the objects that an event frees

-- the actor's own object that its collection does not keep
abbrev pub is_swept : Trace → Actors → ℕ → ObjName → Bool
is_swept trace actors a n =
    option_map_or
    (λ o. not (has_own (sweep (is_marked trace a o.cell) a o.cell.holdings) (Obj n)))
    (seat_at actors a) false

-- whether the event frees it, where it is left: what a collection sweeps, and all of an actor that
-- goes
abbrev pub is_freed_by : State → Event → ObjName → Bool
is_freed_by s (Collect a) n = (n.owner == a) && is_swept s.options.trace s.actors a n
is_freed_by s (Leave a) n = n.owner == a
is_freed_by s (Reap number) n =
    option_map_or (λ (t : Token). has t.members n.owner) (acked_token number s.detector) false
is_freed_by s e n = false

-- ---- room

-- how many objects an actor has, none where it is gone
abbrev pub rows_at : Option Seat → ℕ
rows_at actor = option_map_or (λ o. m.len o.cell.holdings.rows) actor 0

-- how many objects are left
abbrev pub objects_left : Actors → ℕ
objects_left [] = 0
objects_left (actor ∷ actors) = rows_at actor + objects_left actors

-- there are free blocks for all that the event makes
abbrev pub Fits : State → Event → State → Blocks → Type 0
Fits s e t blocks = length (made_by s e t) ≤ count_free blocks

-- the event would go, but makes more rows than there are free blocks
pub record LacksBlocks (s : State) (e : Event) (blocks : Blocks) : Type 0 where
  pub to : State
  pub goes : next s e ≡ Goes to
  pub more : count_free blocks < length (made_by s e to)

-- ---- what holds of them

-- a block has an object that is left, each of which has just one block
pub record AreBlocksOf (actors : Actors) (blocks : Blocks) : Type 0 where
  pub left : (k : ℕ) (n : ObjName) → slice_get blocks k ≡ Some (Some n) → IsLeft actors (Obj n)
  pub has : (n : ObjName) → IsLeft actors (Obj n) → (k : ℕ) × (slice_get blocks k ≡ Some (Some n))
  pub once : OneBlockEach blocks

-- ---- books

-- t is the state after the events of the book, each of which is enabled in its turn and refused
-- neither as full nor for rows, and these are its blocks
abbrev pub LeadsWithBlocks : State → Blocks → List Event → State → Blocks → Type 0
LeadsWithBlocks s blocks [] t later = (s ≡ t) × (blocks ≡ later)
LeadsWithBlocks s blocks (e ∷ book) t later =
    (u : State) × (next s e ≡ Goes u) × Fits s e u blocks
    × LeadsWithBlocks u (blocks_after s e u blocks) book t later

-- the book is a run of the program with so many blocks
abbrev pub IsRowRun : Program → Options → ℕ → List Event → State → Blocks → Type 0
IsRowRun program options count book t blocks =
    LeadsWithBlocks (first_state program options) (free_blocks count) book t blocks
