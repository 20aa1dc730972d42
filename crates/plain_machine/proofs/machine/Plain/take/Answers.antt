use Rattle.std.proofs.Common.{ap, arith, subst}
use Rattle.plain_rules.specs.Limits.{IsWithinLimits, OnGoes}
use Rattle.plain_rules.proofs.Growth.{plain_take_is_within}
use Rattle.plain_machine.specs.State.{state_of}
use Rattle.plain_machine.proofs.machine.Plain.take.Goals as goal

pub invariant_of-self : goal.invariant_of-self
invariant_of-self c =
    let m = c.self.inside in
    let s = state_of m.code.now m.actors m.prints.items m.steps in
    record {
      checked = c.self.invariant.checked;
      early = omega (arith, c.requires, ap (λ s. s.steps) c.self.view_is);
      within = subst (OnGoes IsWithinLimits) (c.if-take.ensures.done m.prints.items m.steps) (plain_take_is_within s c.args.a c.self.invariant.within);
    }
