-- Frames: how a behaviour starts, and a value put into a register.
use Rattle.std.specs.Prelude.{ℕ, ◌-◌, List, ◌++◌, length, replicate, position, slice_set, Option, option_map}
use Rattle.std.specs.Global.{Box}
use Rattle.orca_names.specs.declared.names.Value.{Value}
use Rattle.orca_names.specs.declared.names.Value.TheVariants.{Null}
use Rattle.behaviour_code.specs.declared.code.Program.{Program}
use Rattle.behaviour_code.specs.Find.{behaviours_of, takes_call}
use Rattle.turn_rules.specs.declared.act.Frame.{Frame}

-- the registers with which a behaviour starts: its arguments, and null in all others
abbrev pub registers_of : List Value → List Value
registers_of args = args ++ replicate (16 - length args) Null

-- the frame that a call starts, if the kind has a behaviour of that name with as many parameters as
-- there are arguments
abbrev pub frame_for : Program → ℕ → ℕ → List Value → Option Frame
frame_for program kind behaviour args =
    option_map (λ b. record {
      kind = kind;
      behaviour = b;
      place = 0;
      registers = registers_of args;
    })
    (position (takes_call behaviour (length args)) (behaviours_of program kind))

-- the frame with a value in a register; past the last nothing is put
abbrev pub with_value : ℕ → Value → Frame → Frame
with_value register value frame =
    record frame { registers = slice_set frame.registers register value }

-- the frame at another place, with other registers
abbrev pub standing : ℕ → List Value → Frame → Frame
standing place registers frame = record frame { place = place; registers = registers }

-- the frame in memory of its own, if one runs there
abbrev pub boxed : Option (Box Frame) → Option Frame
boxed frame = option_map (λ f. f.value) frame
