use Rattle.std.proofs.Common.{◌++◌, take, subst, ◌∙◌, arith}
use Rattle.std.proofs.lemmas.List.{take_all}
use Rattle.std.proofs.lemmas.List.Elements.{Contains-append_left}
use Rattle.orca_names.specs.declared.names.Thing.TheVariants.{Actor}
use Rattle.reach_walk.specs.Met.{HasMet, met_by}
use Rattle.reach_walk.proofs.Meeting.{met_more, Grows-append}
use Rattle.reach_walk.proofs.near.meet_row.Goals as goal

pub loop-value-preserved : goal.loop-value-preserved
loop-value-preserved g c =
    let now = c.meet_near.new.met in
    let rows = c.args.rows.now in
    let values = c.args.values.now in
    let i = c.loop-value.value-index in
    record {
      met = λ things met owner. subst (HasMet (g.R.Places.place rows) (g.R.Places.count rows) now) (met_more things values i c.value-item.result (omega arith) c.value-item.is)
          (c.in_ok-meet_near.ensures.met (things ++ met_by (take i values)) (c.loop-value.invariant.met things met owner) (Contains-append_left things (met_by (take i values)) (Actor c.args.dense.now.owner) owner));
      queue = Grows-append c.args.met.now.queue.items c.loop-value.met.queue.items now.queue.items c.loop-value.invariant.queue c.in_ok-meet_near.ensures.queue;
      steps = omega (arith, c.meet_near.ensures.step);
      same = c.meet_near.ensures.same ∙ c.loop-value.invariant.same;
    }

pub returns-clause-met : goal.returns-clause-met
returns-clause-met g c = λ things met owner.
    let rows = c.args.rows.now in
    let values = c.args.values.now in
    subst (λ vs. HasMet (g.R.Places.place rows) (g.R.Places.count rows) c.loop-value.met (things ++ met_by vs)) (take_all c.loop-value.value-index values (omega arith))
    (c.loop-value.invariant.met things met owner)
