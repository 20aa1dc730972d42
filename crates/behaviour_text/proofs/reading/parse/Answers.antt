use Rattle.std.proofs.Common.{IfErr, subst, Option, ℕ}
use Rattle.behaviour_text.specs.Faults.{Tells}
use Rattle.behaviour_text.proofs.Again.{only_one, no_program, texts, no_fault_there}
use Rattle.behaviour_text.proofs.Goodness.{goods}
use Rattle.behaviour_text.proofs.Places.{first_fault_read}
use Rattle.behaviour_text.proofs.reading.parse.Goals as goal
use Rattle.behaviour_text.specs.declared.errors.FaultKind.{FaultKind}

pub returns-clause-text : goal.returns-clause-text
returns-clause-text c = texts c.args.bytes.now c.read.result c.read.ensures.ok

pub returns-clause-good : goal.returns-clause-good
returns-clause-good c = goods c.args.bytes.now c.read.result c.read.ensures.ok

pub returns-clause-only : goal.returns-clause-only
returns-clause-only c = only_one c.args.bytes.now c.read.result c.read.ensures.ok

pub returns-clause-none : goal.returns-clause-none
returns-clause-none c = no_program c.args.bytes.now c.read.result c.read.ensures.fault

pub returns-clause-sound : goal.returns-clause-sound
returns-clause-sound c = no_fault_there c.args.bytes.now c.read.result c.read.ensures.ok

pub returns-clause-fault : goal.returns-clause-fault
returns-clause-fault c = subst (λ (fault : Option (ℕ × FaultKind)). IfErr c.read.result (Tells fault)) (first_fault_read c.args.bytes.now) c.read.ensures.fault
