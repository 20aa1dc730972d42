-- A state of the machine, as the detector's laws speak of it.
use Rattle.std.specs.Prelude.{List, length}
use Rattle.orca_names.specs.declared.names.Thing.TheVariants.{Actor}
use Rattle.letter_kinds.specs.Detector.{Detector}
use Rattle.letter_kinds.specs.declared.note.Note.{Note}
use Rattle.machine_rules.specs.Actors.{Actors, cell_at, mail_at}
use Rattle.machine_rules.specs.Balance.{load_sum}
use Rattle.machine_rules.specs.State.{State}
use Rattle.detector_laws.specs.World.{World}

-- of these actors, this detector and these notes
abbrev pub world_of : Actors → Detector → List Note → World
world_of actors detector notes = record {
  made = length actors;
  cell = cell_at actors;
  mail = mail_at actors;
  loaded = λ x. load_sum (Actor x) actors;
  detector = detector;
  notes = notes;
}

-- of a state
abbrev pub world : State → World
world s = world_of s.actors s.detector s.notes
