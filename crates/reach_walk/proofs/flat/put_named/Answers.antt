use Rattle.std.proofs.Common.{[], ◌∷◌, sym, subst}
use Rattle.reach_walk.specs.Flat.{Puts}
use Rattle.reach_walk.specs.Marks.{with_owners}
use Rattle.reach_walk.specs.Reach.{named_by}
use Rattle.reach_walk.proofs.Flatly.{puts_actor, puts_object}
use Rattle.reach_walk.proofs.flat.put_named.Goals as goal

pub returns-in_ok-put-in-Obj-2-clause-puts : goal.returns-in_ok-put-in-Obj-2-clause-puts
returns-in_ok-put-in-Obj-2-clause-puts g c = λ _.
    let old = c.args.things.now in
    let new = c.put-in-Obj.new.things in
    subst (λ value. Puts (with_owners (named_by (value ∷ []))) old new) (sym c.in-Obj.is)
    (puts_object c.in-Obj.n old c.put.new.things new c.in_ok-put-in-Obj.ensures c.in_ok-put-in-Obj-2.ensures)

pub returns-in_ok-put-in-Actor-clause-puts : goal.returns-in_ok-put-in-Actor-clause-puts
returns-in_ok-put-in-Actor-clause-puts g c = λ _.
    let old = c.args.things.now in
    let new = c.put-in-Actor.new.things in
    subst (λ value. Puts (with_owners (named_by (value ∷ []))) old new) (sym c.in-Actor.is)
    (puts_actor c.in-Actor.a old new c.in_ok-put-in-Actor.ensures)
