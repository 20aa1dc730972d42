use Rattle.std.proofs.Common.{◌≡◌, Option, None, Some, [], false, refl, sym, ap, ◌∙◌, arith}
use Rattle.std.specs.Prelude.{is_some}
use Rattle.reach_walk.proofs.Named.{push-none}
use Rattle.reach_walk.proofs.Nothing.{names_something}
use Rattle.reach_walk.proofs.load.names_nothing_within.Goals as goal

is_none : {X : Type 0} (o : Option X) → is_some o ≡ false → o ≡ None
is_none None e = refl
is_none (Some x) e = cc

pub loop-value-preserved : goal.loop-value-preserved
loop-value-preserved g c =
    let none = is_none c.thing.result (sym c.is_some.ensures ∙ c.if-is_some.false) in
    record {
      none = sym (push-none [] [] c.args.values.now c.loop-value.value-index c.value-item.result
          (omega arith) c.value-item.is (sym c.loop-value.invariant.none) (sym c.thing.ensures ∙ none));
      steps = omega (arith, c.tick.ensures);
    }

pub returns-then-is_some-clause-nothing : goal.returns-then-is_some-clause-nothing
returns-then-is_some-clause-nothing g c =
    let something = names_something c.args.values.now c.loop-value.value-index c.value-item.result
    (omega arith) c.value-item.is
    (ap is_some (sym c.thing.ensures) ∙ sym c.is_some.ensures ∙ c.if-is_some.true) in
    (λ named. cc, λ none. absurd (something none))
