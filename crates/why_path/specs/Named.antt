-- What values name.
use Rattle.std.specs.Prelude.{List, All, IfSome, map}
use Rattle.orca_names.specs.Names.{thing_of}
use Rattle.orca_names.specs.declared.names.Thing.{Thing}
use Rattle.orca_names.specs.declared.names.Value.{Value}
use Rattle.orca_names.specs.declared.reason.Reason.{Reason}
use Rattle.machine_rules.specs.Actors.{Seat}
use Rattle.why_path.specs.Checks.{IsNotLoose}
use Rattle.why_path.specs.Edges.{Lead, args_of, registers_of}

abbrev pub ends_of : List Lead → List Thing
ends_of leads = map (λ l. l.1) leads

-- the value names no loose thing
abbrev pub NamesNoneLoose : List Reason → Value → Type 0
NamesNoneLoose reasons v = IfSome (thing_of v) (IsNotLoose reasons)

-- an actor's fields, registers and letters name no loose thing
abbrev pub SeatLeadsToNoneLoose : List Reason → Seat → Type 0
SeatLeadsToNoneLoose reasons o =
    All (NamesNoneLoose reasons) o.cell.fields.values
    × All (NamesNoneLoose reasons) (registers_of o)
    × All (λ l. All (NamesNoneLoose reasons) (args_of l)) o.mail
