-- Take: an actor without a frame takes the first of its letters.
use Rattle.std.specs.Prelude.{ℕ, true, false, Bool, ◌==◌, if◌then◌else◌, List, [], ◌∷◌, ◌++◌, set}
use Rattle.std.specs.FinMap as m
use Rattle.std.specs.Option.{option_map_or}
use Rattle.orca_names.specs.Names.{owner_of, thing_cmp}
use Rattle.behaviour_code.specs.declared.code.Program.{Program}
use Rattle.turn_rules.specs.Frames.{frame_for}
use Rattle.letter_kinds.specs.Letters.{Letter, App, Inc, Dec, Confirm}
use Rattle.letter_kinds.specs.declared.note.Note.{Note}
use Rattle.letter_kinds.specs.declared.note.Note.TheVariants.{Unblock, Ack}
use Rattle.letter_kinds.specs.Counting.{Loaded, lower_all, raise_all, receive}
use Rattle.letter_kinds.specs.Holdings.{Row}
use Rattle.machine_rules.specs.Actors.{seat}
use Rattle.machine_rules.specs.Cell.{Cell}
use Rattle.event_rule.specs.Runs.{Step, NotEnabled, Goes}
use Rattle.machine_rules.specs.State.{State}

-- the rows of others' objects are kept
unfoldable pub learn : ℕ → List Loaded → m.FinMap thing_cmp Row → m.FinMap thing_cmp Row
learn me [] known = known
learn me (e ∷ rows) known =
    learn me rows
    (option_map_or (λ row. if owner_of e.0 == me then known else m.insert known e.0 row) e.1 known)

-- the idle actor after it took the letter; a Confirm changes nothing of it
abbrev pub cell_after : Program → ℕ → Letter → Cell → Cell
cell_after program me (App behaviour args load rows) c = record c {
  frame = frame_for program c.kind behaviour args;
  holdings = receive me load c.holdings;
  known = learn me rows c.known;
  dirty = true;
  reported = false;
}
cell_after program me (Inc things) c =
    record c { holdings = raise_all me things c.holdings; dirty = true; reported = false }
cell_after program me (Dec things) c =
    record c { holdings = lower_all me things c.holdings; dirty = true; reported = false }
cell_after program me (Confirm token) c = c

-- what an actor that has a report out tells the detector when it takes the letter
abbrev pub note_of : ℕ → Letter → Note
note_of a (App behaviour args load rows) = Unblock a
note_of a (Inc things) = Unblock a
note_of a (Dec things) = Unblock a
note_of a (Confirm token) = Ack token a

abbrev pub notes_after : Bool → Note → List Note → List Note
notes_after reported note notes = if reported then notes ++ note ∷ [] else notes

-- the actor takes the first of its letters
abbrev pub take : State → ℕ → Cell → List Letter → Step State
take s a c [] = NotEnabled
take s a c (letter ∷ mail) =
    Goes (record s {
      actors = set s.actors a (seat (cell_after s.program a letter c) mail);
      notes = notes_after c.reported (note_of a letter) s.notes;
    })
