-- Machines that the tests drive.
use Rattle.std.specs.Prelude.{◌≡◌, []}
use Rattle.orca_names.specs.declared.trace.Trace.{Trace}
use Rattle.behaviour_code.specs.declared.code.Program.{Program}
use Rattle.cell_laws.specs.Limits.{IsOf}
use Rattle.orca_core.specs.Machine.{Machine, NoneIsAway}
use Rattle.orca_parts.specs.Parts.{options_of}

-- it runs this program by this tracing, no cell is away, and it has no blocks
pub record IsDriven (program : Program) (trace : Trace) (m : Machine) : Type 0 where
  pub own : IsOf program (options_of 256 trace) m.state
  pub home : NoneIsAway m
  pub none : m.blocks ≡ []
