-- What is read of the cell of an actor that may be absent.
use Rattle.std.specs.Prelude.{ℕ, false, Bool, Option}
use Rattle.std.specs.Option.{option_map_or}
use Rattle.orca_names.specs.declared.names.Thing.TheVariants.{Actor}
use Rattle.letter_kinds.specs.Holdings.{held_in}
use Rattle.machine_rules.specs.Cell.{Cell}

-- whether it has a report out
abbrev pub is_reporting : Option Cell → Bool
is_reporting cell = option_map_or (λ c. c.reported) cell false

-- the count that it holds on actor x
abbrev pub held_on : Option Cell → ℕ → ℕ
held_on cell x = option_map_or (λ c. held_in c.holdings (Actor x)) cell 0
