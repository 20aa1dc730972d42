-- The state of the machine that collects, and how it starts.
use Rattle.std.specs.Prelude.{ℕ, List, [], ◌∷◌}
use Rattle.std.specs.Option.{option_map_or}
use Rattle.orca_names.specs.declared.names.Value.{Value}
use Rattle.behaviour_code.specs.declared.code.Program.{Program}
use Rattle.behaviour_code.specs.Find.{start_name}
use Rattle.letter_kinds.specs.Letters.{Letter, App}
use Rattle.letter_kinds.specs.declared.note.Note.{Note}
use Rattle.letter_kinds.specs.Detector.{Detector, fresh_detector}
use Rattle.machine_rules.specs.Actors.{Actors, seat}
use Rattle.machine_rules.specs.Cell.{first_cell}
use Rattle.machine_rules.specs.Options.{Options}

pub record State : Type 0 where
  pub program : Program
  pub options : Options
  pub actors : Actors
  pub detector : Detector
  -- what the detector has still to hear
  pub notes : List Note
  pub prints : List Value
  -- how many objects were ever made
  pub objects : ℕ

-- the letter `start`, with no arguments
abbrev pub start_letters : Program → List Letter
start_letters program = option_map_or (λ name. App name [] [] [] ∷ []) (start_name program) []

-- one actor of the first kind, with the letter `start`
abbrev pub first_state : Program → Options → State
first_state program options = record {
  program = program;
  options = options;
  actors = seat (first_cell program) (start_letters program) ∷ [];
  detector = fresh_detector;
  notes = [];
  prints = [];
  objects = 0;
}
