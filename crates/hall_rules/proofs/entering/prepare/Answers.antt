use Rattle.std.proofs.Common.{Bool, length, ap, arith, subst, sym}
use Rattle.std.specs.Prelude.{IfErr, if◌then◌else◌}
use Rattle.event_rule.specs.Runs.{NotEnabled}
use Rattle.machine_rules.specs.Next.{next}
use Rattle.orca_core.specs.Machine.{IsFoundIn}
use Rattle.orca_core.proofs.Blockless.{none_lacked, none_stand}
use Rattle.orca_parts.specs.Faults.{IsFault}
use Rattle.hall_rules.proofs.entering.prepare.Goals as goal

pub prepare-requires-clause-stand : goal.prepare-requires-clause-stand
prepare-requires-clause-stand c = none_stand _ c.args.orca.now c.requires.none

pub prepare_from-requires-clause-stand : goal.prepare_from-requires-clause-stand
prepare_from-requires-clause-stand c = none_stand _ c.args.orca.now c.requires.none

pub prepare_from-requires-clause-found : goal.prepare_from-requires-clause-found
prepare_from-requires-clause-found c =
    subst (λ found. IsFoundIn c.args.e found c.args.orca.now) (sym c.deref_mut.ensures.value) (c.requires.found c.in-Some.found c.in-Some.is)

pub prepare_from-requires-clause-holds : goal.prepare_from-requires-clause-holds
prepare_from-requires-clause-holds c = λ some. absurd (omega (arith, some, ap length c.requires.none))

pub returns-in-Some-clause-fault : goal.returns-in-Some-clause-fault
returns-in-Some-clause-fault c =
    let m = c.args.orca.now in
    subst (λ (b : Bool). IfErr c.prepare_from.result (IsFault (if b then NotEnabled else next m.state c.args.e) c.args.e)) c.requires.home
    (none_lacked c.prepare_from.result m c.args.e c.requires.none c.prepare_from.ensures.fault)

pub returns-in-None-clause-fault : goal.returns-in-None-clause-fault
returns-in-None-clause-fault c =
    let m = c.args.orca.now in
    subst (λ (b : Bool). IfErr c.prepare.result (IsFault (if b then NotEnabled else next m.state c.args.e) c.args.e)) c.requires.home
    (none_lacked c.prepare.result m c.args.e c.requires.none c.prepare.ensures.fault)
