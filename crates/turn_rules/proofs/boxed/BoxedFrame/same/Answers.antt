use Rattle.std.proofs.Common.{rules, refl}
use Rattle.std.proofs.lemmas.Slice.Eq.{slice_eq-Decides}
use Rattle.orca_names.specs.contracts.names.ValuePartialEq.TheImpl.{eq-value}
use Rattle.orca_names.specs.declared.names.Value.{Value}
use Rattle.turn_rules.proofs.boxed.BoxedFrame.same.Goals as goal

pub returns-in-Some-get : goal.returns-in-Some-get
returns-in-Some-get c =
    let frame = c.in-Some.frame.now in
    let its = c.in-Some-get.its.now in
    let values = slice_eq-Decides {A = Value} {E = eq-value.it} (λ a b. search rules) frame.registers its.registers _ refl in
    search rules
