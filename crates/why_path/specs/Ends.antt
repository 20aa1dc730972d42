-- Where one edge leads.
use Rattle.std.specs.Prelude.{ℕ, List, Option, Some, None, option_and_then, slice_get}
use Rattle.orca_names.specs.Names.{thing_of}
use Rattle.orca_names.specs.declared.names.Thing.{Thing}
use Rattle.orca_names.specs.declared.names.Thing.TheVariants.{Actor, Obj}
use Rattle.orca_names.specs.declared.names.Value.{Value}
use Rattle.orca_names.specs.declared.reason.Edge.{Edge}
use Rattle.orca_names.specs.declared.reason.Edge.TheVariants.{Field, Register, Letter, Place, Owner}
use Rattle.machine_rules.specs.Actors.{Actors, Seat, seat_at}
use Rattle.why_path.specs.Edges.{args_of, registers_of, row_left}

-- the thing that the value at a place names
abbrev pub named_at : List Value → ℕ → Option Thing
named_at values i = option_and_then thing_of (slice_get values i)

-- from an actor
abbrev pub end_at_seat : Edge → Seat → Option Thing
end_at_seat (Field i) o = named_at o.cell.fields.values i
end_at_seat (Register i) o = named_at (registers_of o) i
end_at_seat (Letter k i) o = option_and_then (λ l. named_at (args_of l) i) (slice_get o.mail k)
end_at_seat (Place i) o = None
end_at_seat Owner o = None

-- from an object with this row
abbrev pub end_at_row : Edge → ℕ → List Value → Option Thing
end_at_row (Field i) owner row = None
end_at_row (Register i) owner row = None
end_at_row (Letter k i) owner row = None
end_at_row (Place i) owner row = named_at row i
end_at_row Owner owner row = Some (Actor owner)

-- where the edge leads from a thing, if it leads anywhere
unfoldable pub end_of : Actors → Thing → Edge → Option Thing
end_of actors (Actor a) e = option_and_then (end_at_seat e) (seat_at actors a)
end_of actors (Obj n) e = end_at_row e n.owner (row_left actors n)
