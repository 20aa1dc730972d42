use Rattle.std.proofs.Common.{subst}
use Rattle.machine_rules.specs.Next.{next}
use Rattle.orca_parts.specs.Faults.{IsFault}
use Rattle.hall_rules.proofs.entering.reserve.Goals as goal

pub refuse_of-requires : goal.refuse_of-requires
refuse_of-requires c = λ actor is. subst (IsFault (next c.args.orca.now.state c.args.e.now) c.args.e.now) is c.in-Err.ensures.fault

pub returns-in-Err-clause-refused : goal.returns-in-Err-clause-refused
returns-in-Err-clause-refused c =
    c.refuse_of.ensures (next c.args.orca.now.state c.args.e.now) c.args.e.now c.requires.ready c.in-Err.ensures.fault
