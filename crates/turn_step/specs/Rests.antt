-- A behaviour of which nothing but labels is left: its turn ends, and leaves all as it was.
use Rattle.std.specs.Prelude.{ℕ, ◌+◌, Bool, true, false, if◌then◌else◌, List, length, drop, Option, Some, None}
use Rattle.std.specs.List.{list_all}
use Rattle.behaviour_code.specs.declared.code.Program.{Program}
use Rattle.behaviour_code.specs.declared.instr.Instr.{Instr}
use Rattle.behaviour_code.specs.declared.instr.Instr.TheVariants.{Label}
use Rattle.behaviour_code.specs.Find.{body_of}
use Rattle.turn_rules.specs.declared.act.Frame.{Frame}

-- whether it is a label, of whichever name
abbrev pub is_mark : Instr → Bool
is_mark (Label name) = true
is_mark i = false

-- the place behind these instructions, the first of which stands at this place, where all are labels
abbrev pub rest_of : List Instr → ℕ → Option ℕ
rest_of rest place = if list_all is_mark rest then Some (place + length rest) else None

-- where the frame's behaviour ends, if nothing but labels is left of it
abbrev pub rests_at : Program → Frame → Option ℕ
rests_at program frame = rest_of (drop frame.place (body_of program frame.kind frame.behaviour)) frame.place
