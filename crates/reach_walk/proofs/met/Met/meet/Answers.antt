use Rattle.std.proofs.Common.{◌++◌, ◌∷◌, [], ap, sym, subst}
use Rattle.std.specs.Prelude.{OnOk}
use Rattle.std.proofs.lemmas.Result.{on_ok_weaker}
use Rattle.reach_walk.specs.Met.{HasMet, met_by}
use Rattle.reach_walk.proofs.Meeting.{met_owner, met_twice}
use Rattle.reach_walk.proofs.met.Met.meet.Goals as goal

pub returns-in-Obj-clause-met : goal.returns-in-Obj-clause-met
returns-in-Obj-clause-met g c = λ things met.
    let now = c.meet_object.new.self in
    subst (λ v. OnOk c.meet_object.result (HasMet (g.P.Places.place c.args.places.now) (g.P.Places.count c.args.places.now) now (things ++ met_by (v ∷ [])))) (sym c.in-Obj.is)
    (c.meet_object.ensures.met things met)

pub returns-in-Actor-clause-met : goal.returns-in-Actor-clause-met
returns-in-Actor-clause-met g c = λ things met.
    let place = g.P.Places.place c.args.places.now in
    let count = g.P.Places.count c.args.places.now in
    let now = c.meet_owner.new.self in
    let a = c.in-Actor.a in
    subst (λ v. OnOk c.meet_owner.result (HasMet place count now (things ++ met_by (v ∷ [])))) (sym c.in-Actor.is)
    (on_ok_weaker c.meet_owner.result (λ tells. met_twice place count now things a (met_owner place count c.args.self.now now things a met (ap (λ q. q.items) c.meet_owner.ensures.queue) tells)) (c.meet_owner.ensures.tells things met.tells))
