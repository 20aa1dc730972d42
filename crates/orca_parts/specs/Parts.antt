-- The state of the machine, by its parts.
use Rattle.std.specs.Prelude.{ℕ}
use Rattle.orca_names.specs.declared.trace.Trace.{Trace}
use Rattle.behaviour_code.specs.declared.code.Program.{Program}
use Rattle.machine_rules.specs.Options.{Options}
use Rattle.machine_rules.specs.State.{State}
use Rattle.actor_table.specs.Slots.{actors_of}
use Rattle.orca_parts.specs.declared.parts.Parts.{Parts}

abbrev pub options_of : ℕ → Trace → Options
options_of weight trace = record { weight = weight; trace = trace }

abbrev pub state_of : Program → Options → Parts → State
state_of program options m = record {
  program = program;
  options = options;
  actors = actors_of m.table.slots;
  detector = m.detector.state;
  notes = m.notes.items;
  prints = m.prints.items;
  objects = m.objects;
}
