use Rattle.std.proofs.Common.{List, Contains, IfOk, subst, ◌∙◌}
use Rattle.orca_names.specs.declared.names.Thing.{Thing}
use Rattle.reach_walk.specs.Reach.{Reaches}
use Rattle.plain_rules.specs.Reach.{plain_edges}
use Rattle.plain_machine.proofs.reach.reached.Goals as goal

pub returns-clause-exact : goal.returns-clause-exact
returns-clause-exact c =
    let edges = plain_edges c.args.actors.now in
    subst (λ (roots : List Thing). IfOk c.walk.result (λ found. (x : Thing) → (Contains found.items x → Reaches edges roots x) × (Reaches edges roots x → Contains found.items x)))
    (c.as_slice.ensures.value ∙ c.in_ok-roots.ensures) c.walk.ensures.exact
