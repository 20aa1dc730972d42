-- What an actor needs of what its turn gets.
use Rattle.std.specs.Prelude.{◌||◌, not, Bool, List, Option}
use Rattle.std.specs.List.{find}
use Rattle.orca_names.specs.Names.{owner_of}
use Rattle.orca_names.specs.declared.names.Thing.{Thing}
use Rattle.orca_names.specs.declared.names.Thing.TheVariants.{Actor}
use Rattle.orca_names.specs.declared.names.Value.{Value}
use Rattle.orca_names.specs.declared.row.Fields.{Fields}
use Rattle.reach_walk.specs.Reach.{named_by}
use Rattle.turn_rules.specs.declared.act.Frame.{Frame}
use Rattle.turn_rules.specs.Segment.{Setting, gets_of}

-- the thing is not held, or its owner is not
abbrev pub is_needed : (Thing → Bool) → Thing → Bool
is_needed held x = not (held x) || not (held (Actor (owner_of x)))

-- the first needed thing that the values name
abbrev pub first_needed : (Thing → Bool) → List Value → Option Thing
first_needed held values = find (is_needed held) (named_by values)

-- the first needed thing that a frame's segment gets from a row
abbrev pub needed_in : (Thing → Bool) → Setting → Frame → Fields → Option Thing
needed_in held p frame fields = first_needed held (gets_of p frame fields)
