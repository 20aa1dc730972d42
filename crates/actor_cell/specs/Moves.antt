-- What an actor does where its turn stops.
use Rattle.std.specs.Prelude.{ℕ, List}
use Rattle.orca_names.specs.declared.names.Value.{Value}
use Rattle.letter_kinds.specs.Letters.{Letter, App}
use Rattle.letter_kinds.specs.Counting.{Amount, Loaded}
use Rattle.letter_kinds.specs.Load.{as_load}
use Rattle.actor_cell.specs.declared.turning.Doing.{Doing}
use Rattle.actor_cell.specs.declared.turning.Doing.TheVariants as doing
use Rattle.actor_cell.specs.declared.turning.Turned.{Turned}

pub data Move : Type 0 where
  -- it sends an actor this letter
  Post : ℕ → Letter → Move
  -- it lacks some of what a letter would load: its counts of these things rise, and an increment tells
  -- their owner
  Mint : ℕ → List Amount → Move
  -- it makes an actor of a kind, which the register becomes
  New : ℕ → ℕ → Move
  Print : Value → Move
  -- its behaviour ends
  End : Move
  -- its behaviour ends, and its turn leaves registers and fields as they were
  Rest : Move

-- with what stands beside what it does
abbrev pub move_of : Doing → List Value → List Loaded → List Loaded → List Amount → Move
move_of (doing.Post to behaviour) args load rows things = Post to (App behaviour args load rows)
move_of (doing.Mint owner) args load rows things = Mint owner things
move_of (doing.New kind register) args load rows things = New kind register
move_of (doing.Print value) args load rows things = Print value
move_of doing.End args load rows things = End
move_of doing.Rest args load rows things = Rest

-- what was found
abbrev pub act_in : Turned → Move
act_in t = move_of t.doing t.args (as_load t.load) (as_load t.rows) t.things
