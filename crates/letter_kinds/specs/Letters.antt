-- Letters as the rules have them: rows are values, wherever they lie.
use Rattle.std.specs.Prelude.{ℕ, List, Option}
use Rattle.orca_names.specs.declared.names.Thing.{Thing}
use Rattle.orca_names.specs.declared.names.Value.{Value}
use Rattle.behaviour_code.specs.declared.names.Name.{Name}
use Rattle.letter_kinds.specs.Load.{as_load}
use Rattle.letter_kinds.specs.declared.letter.Letter as code
use Rattle.letter_kinds.specs.declared.letter.Letter.TheVariants as sent

-- of these constructors proofs name the four parts of an application letter, as of a record
pub data Letter : Type 0 where
  App : (behaviour : Name) (args : List Value) (load rows : List (Thing × Option (List Value))) → Letter
  Inc : (things : List (Thing × ℕ)) → Letter
  Dec : (things : List (Thing × ℕ)) → Letter
  Confirm : (token : ℕ) → Letter

-- the letter that the code has
abbrev pub as_letter : code.Letter → Letter
as_letter (sent.App behaviour args load rows) = App behaviour args (as_load load) (as_load rows)
as_letter (sent.Inc things) = Inc things
as_letter (sent.Dec things) = Dec things
as_letter (sent.Confirm token) = Confirm token

-- with the actor to which it goes
abbrev pub as_sent : ℕ × code.Letter → ℕ × Letter
as_sent l = (l.0, as_letter l.1)
