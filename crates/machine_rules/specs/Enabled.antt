-- When each event is enabled, and when a go is refused because the machine is full.
use Rattle.std.specs.Prelude.{ℕ, ◌≡◌, ◌≢◌, ◌≤◌, true, List, [], length, Some, None}
use Rattle.event_rule.specs.declared.event.Event.{Event}
use Rattle.event_rule.specs.declared.event.Event.TheVariants.{Take, Go, Collect, Leave, Block, Hear, Scan, Reap}
use Rattle.turn_rules.specs.declared.act.Act.TheVariants.{New}
use Rattle.turn_rules.specs.declared.act.Frame.{Frame}
use Rattle.letter_kinds.specs.Detector.{Token}
use Rattle.letter_kinds.specs.Letters.{Letter}
use Rattle.machine_rules.specs.Actors.{seat, seat_at}
use Rattle.machine_rules.specs.Cell.{Cell}
use Rattle.machine_rules.specs.Detect.{acked_token}
use Rattle.machine_rules.specs.Go.{needed, turn_of_cell}
use Rattle.machine_rules.specs.Guards.{may_block, may_collect, may_go, may_leave, may_take}
use Rattle.machine_rules.specs.State.{State}
use Rattle.orca_names.specs.declared.limits.TheConstants.{ACTORS_LIMIT}

-- the actor is present, and its cell and its letters are so
abbrev pub IsPresentWith : State → ℕ → (Cell → List Letter → Type 0) → Type 0
IsPresentWith s a Q =
    (c : Cell) × (mail : List Letter) × (seat_at s.actors a ≡ seat c mail) × Q c mail

abbrev pub CanHappen : State → Event → Type 0
CanHappen s (Take a) = IsPresentWith s a (λ c mail. may_take c mail ≡ true)
CanHappen s (Go a) = IsPresentWith s a (λ c mail. may_go c mail ≡ true)
CanHappen s (Collect a) = IsPresentWith s a (λ c mail. may_collect c mail ≡ true)
CanHappen s (Leave a) = IsPresentWith s a (λ c mail. may_leave c mail ≡ true)
CanHappen s (Block a) = IsPresentWith s a (λ c mail. may_block c mail ≡ true)
CanHappen s Hear = s.notes ≢ []
CanHappen s Scan = s.detector.news ≡ true
CanHappen s (Reap number) = (t : Token) × (acked_token number s.detector ≡ Some t)

-- the event is a go whose act makes an actor, where as many are made as may be
pub record IsRefusedAsFull (s : State) (e : Event) : Type 0 where
  pub actor : ℕ
  pub is_go : e ≡ Go actor
  pub cell : Cell
  pub mail : List Letter
  pub present : seat_at s.actors actor ≡ seat cell mail
  pub frame : Frame
  pub framed : cell.frame ≡ Some frame
  pub kind : ℕ
  pub register : ℕ
  pub held : needed s.options.trace s.program actor cell frame ≡ None
  pub makes : (turn_of_cell s.options.trace s.program actor cell frame).act ≡ New kind register
  pub made : ACTORS_LIMIT ≤ length s.actors
