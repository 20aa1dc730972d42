use Rattle.std.proofs.Common.{◌++◌, length, ap, subst, ◌∙◌, arith}
use Rattle.std.specs.Prelude.{OnOk}
use Rattle.std.proofs.lemmas.Result.{on_ok_weaker}
use Rattle.reach_walk.specs.Met.{HasMet, met_by}
use Rattle.reach_walk.proofs.by_place.meet_block.Goals as goal

pub returns-clause-met : goal.returns-clause-met
returns-clause-met g c = λ row lies things met.
    let places = c.args.places.now in
    subst (λ vs. OnOk c.meet_all.result (HasMet (g.P.Places.place places) (g.P.Places.count places) c.meet_all.new.self (things ++ met_by vs)))
    (c.as_slice.ensures.value ∙ c.read-row.ensures.row row lies) (c.meet_all.ensures.met things met)

pub returns-clause-steps : goal.returns-clause-steps
returns-clause-steps g c = λ row lies.
    on_ok_weaker c.meet_all.result (λ steps. omega (arith, steps, ap length (c.as_slice.ensures.value ∙ c.read-row.ensures.row row lies))) c.meet_all.ensures.steps
