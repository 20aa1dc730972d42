use Rattle.std.proofs.Common.{List, Contains, IfOk, subst, ◌∙◌, ap}
use Rattle.orca_names.specs.declared.names.Thing.{Thing}
use Rattle.reach_walk.specs.Reach.{Reaches}
use Rattle.plain_rules.specs.declared.PlainActor.{PlainActor}
use Rattle.plain_rules.specs.Reach.{plain_edges, roots_from}
use Rattle.plain_machine.proofs.machine.Plain.reach.Goals as goal

pub returns-clause-exact : goal.returns-clause-exact
returns-clause-exact c =
    subst (λ (actors : List PlainActor). IfOk c.reached.result (λ found. (x : Thing) → (Contains found.items x → Reaches (plain_edges actors) (roots_from 0 actors) x) × (Reaches (plain_edges actors) (roots_from 0 actors) x → Contains found.items x)))
    (c.as_slice.ensures ∙ ap (λ s. s.actors) c.self.view_is) c.reached.ensures.exact
