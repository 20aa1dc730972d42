-- What an actor lacks of a thing that it got from a row.
use Rattle.std.specs.Prelude.{ℕ, List, [], ◌∷◌, filter}
use Rattle.orca_names.specs.declared.names.Thing.{Thing}
use Rattle.reach_walk.specs.Marks.{in_order, with_owners}
use Rattle.letter_kinds.specs.Holdings.{Holdings}
use Rattle.machine_rules.specs.Go.{lacks}

-- of the thing and its owner those that are neither its own nor held
abbrev pub missing_of : ℕ → Holdings → Thing → List Thing
missing_of me h x = filter (lacks me h) (in_order (with_owners (x ∷ [])))
