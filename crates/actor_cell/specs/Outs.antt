-- What an event gives out.
use Rattle.std.specs.Prelude.{ℕ, ◌≡◌, ◌≤◌, List, [], ◌∷◌, Option, None, map, vec_capacity}
use Rattle.std.specs.Global.{Vec}
use Rattle.orca_names.specs.Names.{owner_of}
use Rattle.orca_names.specs.declared.names.Value.{Value}
use Rattle.letter_kinds.specs.Letters.{Letter, Dec, as_sent}
use Rattle.letter_kinds.specs.declared.letter.Letter as code
use Rattle.letter_kinds.specs.declared.note.Note.{Note}
use Rattle.letter_kinds.specs.declared.note.Note.TheVariants.{Block}
use Rattle.letter_kinds.specs.Counting.{Amount, by_owner, given_back}
use Rattle.letter_kinds.specs.Detector.{has}
use Rattle.machine_rules.specs.Block.{held_actors}
use Rattle.machine_rules.specs.Cell.{Cell}
use Rattle.actor_cell.specs.declared.whole.Out as whole

-- no letter stands in the room yet, which suffices for so many
abbrev pub IsRoomFor : ℕ → Vec (ℕ × code.Letter) → Type 0
IsRoomFor count room = (room.items ≡ []) × (count ≤ vec_capacity room)

-- letters, each with the actor to which it goes, notes to the detector, the value that is printed, and
-- the kind of the actor that is made with the register that it becomes
pub record Out : Type 0 where
  pub letters : List (ℕ × Letter)
  pub notes : List Note
  pub print : Option Value
  pub made : Option (ℕ × ℕ)

-- what the code gives out
abbrev pub as_out : whole.Out → Out
as_out out = record {
  letters = map as_sent out.letters;
  notes = out.notes;
  print = out.print;
  made = out.made;
}

-- these notes, and nothing else
abbrev pub noting : List Note → Out
noting notes = record { letters = []; notes = notes; print = None; made = None }

-- to each owner one Dec with its amounts
abbrev pub decs_to : List (ℕ × List Amount) → List (ℕ × Letter)
decs_to groups = map (λ g. (g.0, Dec g.1)) groups

-- to each owner one Dec with its amounts, and nothing else
abbrev pub returning : List (ℕ × List Amount) → Out
returning groups = record {
  letters = decs_to groups;
  notes = [];
  print = None;
  made = None;
}

-- what a blocked actor reports
abbrev pub report_of : ℕ → Cell → Note
report_of a c = Block a c.holdings.count (held_actors c.holdings)

-- what an actor that goes with all of these held on things of those who stay, in groups of owners
abbrev pub left_outside : List ℕ → Cell → List (ℕ × List Amount)
left_outside gone c = by_owner (given_back (λ x. has gone (owner_of x)) c.holdings)

-- what an actor that goes alone held on others' things
abbrev pub left_behind : ℕ → Cell → List (ℕ × List Amount)
left_behind a c = left_outside (a ∷ []) c
