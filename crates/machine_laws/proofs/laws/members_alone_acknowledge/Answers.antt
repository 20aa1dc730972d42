use Rattle.machine_laws.proofs.Acknowledged.{runs_ask_members, runs_hear_members}
use Rattle.machine_laws.proofs.laws.members_alone_acknowledge.Goals as goal

pub returns-clause-asked : goal.returns-clause-asked
returns-clause-asked c = runs_ask_members

pub returns-clause-heard : goal.returns-clause-heard
returns-clause-heard c = runs_hear_members
