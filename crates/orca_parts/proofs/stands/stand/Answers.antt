use Rattle.std.proofs.Common.{◌<◌, false, length, refl, subst, sym}
use Rattle.turn_rules.specs.Segment.{Turn}
use Rattle.actor_cell.specs.declared.turning.Turned.{Turned}
use Rattle.orca_parts.specs.Core.{HasFound}
use Rattle.orca_parts.specs.Founds.{IsFoundFor}
use Rattle.letter_kinds.specs.Telling.{HoldsTold, Told}
use Rattle.actor_cell.specs.Tells.{told_found}
use Rattle.orca_parts.specs.declared.insides.Core.{Core}
use Rattle.orca_parts.proofs.Founding.{rests_held, turn_held, turn_known}
use Rattle.orca_parts.proofs.stands.stand.Goals as goal

pub returns-in-Goes-clause-known : goal.returns-in-Goes-clause-known
returns-in-Goes-clause-known c = λ e its.
    let m = c.args.m.now in
    subst (λ (t : Turn × Turned). HasFound e (record m { parts = record m.parts { turn = t.0; turned = t.1 }; stands = false }))
    (λ i. (sym c.swap.ensures.x_after i, sym c.swap-in-Goes.ensures.x_after i))
    (turn_known e m c.in-Goes.turn c.in-Goes.turned (subst (λ f. IsFoundFor m.options m.code.now m.parts.blocks f e m.parts.table.slots) c.in-Goes.is its))

pub returns-in-Goes-clause-holds : goal.returns-in-Goes-clause-holds
returns-in-Goes-clause-holds c = λ e known its holds.
    let m = c.args.m.now in
    let after : Core = record m {
      parts = record m.parts { turn = c.swap.new.x; turned = c.swap-in-Goes.new.x };
      stands = false;
    } in
    let found = c.in-Goes.is in
    turn_held known e m c.in-Goes.turn c.in-Goes.turned after c.swap-in-Goes.ensures.x_after refl
    (subst (λ f. IsFoundFor m.options m.code.now m.parts.blocks f e m.parts.table.slots) found its)
    (subst (λ f. 0 < length m.parts.blocks → HoldsTold known (Told (told_found f))) found holds)

pub returns-in-Collects-clause-holds : goal.returns-in-Collects-clause-holds
returns-in-Collects-clause-holds c = λ e known its holds.
    let m = c.args.m.now in
    rests_held known e _ (λ a is d home. (subst (λ f. IsFoundFor m.options m.code.now m.parts.blocks f e m.parts.table.slots) c.in-Collects.is its a is d home).0.0)

pub returns-in-Nothing-clause-holds : goal.returns-in-Nothing-clause-holds
returns-in-Nothing-clause-holds c = λ e known its holds.
    let m = c.args.m.now in
    rests_held known e _ (λ a is d home. (subst (λ f. IsFoundFor m.options m.code.now m.parts.blocks f e m.parts.table.slots) c.in-Nothing.is its a is d home).0.0)
