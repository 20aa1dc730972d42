use Rattle.std.proofs.Common.{◌++◌, take, subst, ◌∙◌, arith}
use Rattle.std.proofs.lemmas.List.{take_all}
use Rattle.reach_walk.specs.Met.{HasMet, met_by}
use Rattle.reach_walk.proofs.Meeting.{met_more, Grows-append}
use Rattle.reach_walk.proofs.met.Met.meet_all.Goals as goal

pub loop-value-preserved : goal.loop-value-preserved
loop-value-preserved g c =
    let now = c.meet.new.self in
    let values = c.args.values.now in
    let i = c.loop-value.value-index in
    record {
      met = λ things met. subst (HasMet (g.P.Places.place c.args.places.now) (g.P.Places.count c.args.places.now) now) (met_more things values i c.value-item.result (omega arith) c.value-item.is)
          (c.in_ok-meet.ensures.met (things ++ met_by (take i values)) (c.loop-value.invariant.met things met));
      queue = Grows-append c.args.self.now.queue.items c.loop-value.self.queue.items now.queue.items c.loop-value.invariant.queue c.in_ok-meet.ensures.queue;
      steps = omega (arith, c.meet.ensures.step);
      same = c.meet.ensures.same ∙ c.loop-value.invariant.same;
    }

pub returns-clause-met : goal.returns-clause-met
returns-clause-met g c = λ things met.
    let values = c.args.values.now in
    subst (λ vs. HasMet (g.P.Places.place c.args.places.now) (g.P.Places.count c.args.places.now) c.loop-value.self (things ++ met_by vs)) (take_all c.loop-value.value-index values (omega arith))
    (c.loop-value.invariant.met things met)
