-- The numbers of the rules.
use Rattle.std.specs.Prelude.{ℕ}
use Rattle.behaviour_check.specs.declared.rule.Rule.{Rule}
use Rattle.behaviour_check.specs.declared.rule.Rule.TheVariants as R

-- the number by which a fault tells a rule
abbrev pub number_of : Rule → ℕ
number_of R.Start = 1
number_of R.NamedOnce = 2
number_of R.KnownKind = 3
number_of R.LabelAhead = 4
number_of R.Registers = 5
number_of R.Fields = 6
