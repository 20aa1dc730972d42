-- What is left of an actor.
use Rattle.std.specs.Prelude.{List, ◌∷◌, map}
use Rattle.std.specs.FinMap as m
use Rattle.orca_names.specs.declared.names.Thing.{Thing}
use Rattle.orca_names.specs.declared.names.Thing.TheVariants.{Actor, Obj}
use Rattle.actor_cell.specs.declared.cell.Cell.{Cell}

-- itself and its objects, in the order of things
abbrev pub things_of : Cell → List Thing
things_of c =
    Actor c.heap.owner
    ∷ map (λ e. Obj (record { owner = c.heap.owner; serial = e.0 })) (m.entries c.heap.rows)
