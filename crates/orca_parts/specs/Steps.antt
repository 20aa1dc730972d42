-- What a step needs of the state, which every run gives.
use Rattle.std.specs.Prelude.{ℕ, ◌≡◌, ◌+◌, ◌<◌, ◌^◌, List, ◌∷◌, length, Some, None, ⊤}
use Rattle.std.specs.FinMap as m
use Rattle.orca_names.specs.declared.limits.TheConstants.{BODY_LIMIT}
use Rattle.orca_names.specs.declared.names.Thing.TheVariants.{Actor}
use Rattle.orca_names.specs.declared.options.Options.{Options}
use Rattle.behaviour_code.specs.declared.code.Program.{Program}
use Rattle.turn_rules.specs.declared.act.Frame.{Frame}
use Rattle.letter_kinds.specs.Letters.{Letter}
use Rattle.machine_rules.specs.Actors.{Actors, seat, seat_at}
use Rattle.machine_rules.specs.Cell.{Cell}
use Rattle.actor_cell.specs.Goes.{CanGo}
use Rattle.actor_cell.specs.Takes.{CanTake}
use Rattle.event_rule.specs.declared.event.Event.{Event}
use Rattle.event_rule.specs.declared.event.Event.TheVariants.{Take, Go, Collect, Scan, Reap}
use Rattle.cycle_detect.specs.declared.detector.TheConstants.{TOKENS_LIMIT}
use Rattle.actor_cell.specs.declared.cell.Cell as cell
use Rattle.actor_cell.specs.Sweeps.{KnowsOthersOnly}
use Rattle.actor_table.specs.declared.slot.Place.TheVariants.{Home}
use Rattle.actor_table.specs.Slots.{actors_of, slot_at}
use Rattle.orca_parts.specs.declared.parts.Parts.{Parts}
use Rattle.orca_parts.specs.Reaping.{AckedAreHome}

-- the actor's counts allow the letter that it takes next
abbrev pub AllowsTake : ℕ → Actors → Type 0
AllowsTake a actors = (c : Cell) (letter : Letter) (later : List Letter)
    → seat_at actors a ≡ seat c (letter ∷ later) → CanTake a letter c.holdings

-- the actor's counts and serials allow its turn, and it holds nothing of the actor that is made next
pub record TurnFits (options : Options) (program : Program) (a made : ℕ)
    (c : Cell) : Type 0 where
  pub can : (frame : Frame) → c.frame ≡ Some frame → CanGo options program a c
  pub serials : c.holdings.next + BODY_LIMIT < 2 ^ 64
  pub unnamed : m.get c.holdings.foreign (Actor made) ≡ None

abbrev pub AllowsGo : Options → Program → ℕ → Actors → Type 0
AllowsGo options program a actors = (c : Cell) (mail : List Letter)
    → seat_at actors a ≡ seat c mail → TurnFits options program a (length actors) c

-- what an event needs; a take, a go, a collection and a scan alone need anything
abbrev pub CanStep : Options → Program → Parts → Event → Type 0
CanStep options program m (Take a) = AllowsTake a (actors_of m.table.slots)
CanStep options program m (Go a) =
    AllowsGo options program a (actors_of m.table.slots) × (m.objects + BODY_LIMIT < 2 ^ 64)
CanStep options program m (Collect a) = (c : cell.Cell)
    → (slot_at m.table.slots a).place ≡ Home c → c.heap.owner ≡ a → KnowsOthersOnly c
CanStep options program m Scan = m.detector.state.opened < TOKENS_LIMIT
CanStep options program m e = ⊤

-- the cells of those whom the event reaps are at home; a reap alone reaps
abbrev pub ReapsAtHome : Event → Parts → Type 0
ReapsAtHome (Reap number) m = AckedAreHome number m.detector.state m.table.slots
ReapsAtHome e m = ⊤
