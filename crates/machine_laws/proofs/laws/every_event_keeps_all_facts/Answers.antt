use Rattle.machine_laws.proofs.WholeRuns.{event_keeps}
use Rattle.machine_laws.proofs.laws.every_event_keeps_all_facts.Goals as goal

pub returns : goal.returns
returns c = event_keeps
