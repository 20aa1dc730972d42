use Rattle.std.proofs.Common.{ap, arith, subst}
use Rattle.plain_rules.specs.Machine.{PlainState, plain_go}
use Rattle.plain_rules.specs.Limits.{IsWithinLimits, OnGoes}
use Rattle.plain_rules.proofs.Growth.{plain_go_is_within}
use Rattle.plain_machine.specs.Faults.{Faulted}
use Rattle.plain_machine.specs.State.{state_of}
use Rattle.plain_machine.proofs.machine.Plain.go.Goals as goal

pub invariant_of-self : goal.invariant_of-self
invariant_of-self c =
    let m = c.self.inside in
    let s = state_of m.code.now m.actors m.prints.items m.steps in
    record {
      checked = c.self.invariant.checked;
      early = omega (arith, c.requires, ap (λ s. s.steps) c.self.view_is);
      within = subst (OnGoes IsWithinLimits) (c.in-Ok.ensures.ok m.steps) (plain_go_is_within s c.args.a c.self.invariant.checked.good c.self.invariant.within);
    }

pub returns-in-Err-clause-fault : goal.returns-in-Err-clause-fault
returns-in-Err-clause-fault c =
    subst (λ (s : PlainState). Faulted (plain_go s c.args.a) c.args.a c.in-Err.fault) c.self.view_is (c.in-Err.ensures.fault c.self.inside.steps)
