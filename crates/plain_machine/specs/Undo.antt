-- A turn that is kept or taken back by its parts.
use Rattle.std.specs.Prelude.{ℕ, ◌≡◌, ◌++◌, List, length, take, Option}
use Rattle.orca_names.specs.declared.names.Value.{Value}
use Rattle.orca_names.specs.declared.row.Fields.{Fields}
use Rattle.turn_rules.specs.declared.act.Frame.{Frame}
use Rattle.turn_rules.specs.Segment.{Turn}
use Rattle.plain_rules.specs.declared.PlainActor.{PlainActor}
use Rattle.plain_rules.specs.Machine.{with_changed}
use Rattle.plain_machine.specs.declared.acts.Stand.{Stand}

-- the actor has as many rows
abbrev pub has_rows : Stand → PlainActor → Type 0
has_rows stand x = stand.rows ≡ length x.rows

-- the frame that goes on, with the registers that the turn left
abbrev pub frame_left : Stand → Turn → Frame
frame_left stand turn = record {
  kind = stand.kind;
  behaviour = stand.behaviour;
  place = stand.place;
  registers = turn.registers;
}

-- the actors, one of which has more rows
abbrev pub with_rows : List PlainActor → ℕ → List (List Value) → List PlainActor
with_rows actors a made = with_changed actors a (λ x. record x { rows = x.rows ++ made })

-- the actors, one of which has its first rows alone
abbrev pub with_first_rows : List PlainActor → ℕ → ℕ → List PlainActor
with_first_rows actors a rows = with_changed actors a (λ x. record x { rows = take rows x.rows })

-- the actors, one of which has this frame and these fields
abbrev pub with_kept : List PlainActor → ℕ → Option Frame → Fields → List PlainActor
with_kept actors a frame fields =
    with_changed actors a (λ x. record x { frame = frame; fields = fields })
