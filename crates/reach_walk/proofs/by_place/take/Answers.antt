use Rattle.std.proofs.Common.{◌≡◌, ◌++◌, [], Contains, Some, length, ap, subst, sym, ◌∙◌, arith}
use Rattle.std.specs.Prelude.{OnOk, option_copied, unwrap_or}
use Rattle.std.proofs.lemmas.Result.{on_ok_weaker}
use Rattle.orca_names.specs.declared.names.Thing.TheVariants.{Actor, Obj}
use Rattle.reach_walk.specs.Met.{HasMet, met_by}
use Rattle.reach_walk.specs.Reach.{row_edges}
use Rattle.reach_walk.proofs.Together.{stands_there}
use Rattle.reach_walk.proofs.by_place.take.Goals as goal

pub returns-in-Some-clause-met : goal.returns-in-Some-clause-met
returns-in-Some-clause-met g c = λ things n met there here.
    let rows = c.args.rows.now in
    let place = g.R.Places.place rows in
    let its = g.R.BlockRows.rows rows in
    let found = c.row_at.ensures its c.in-Some.row.now (ap option_copied c.in-Some.is) in
    let stands = stands_there place its (g.R.BlockRows.blocks rows) (g.met.R.Places.in_order rows) c.args.dense.now n found.0 found.1 c.requires.together found.3 (here ∙ ap Some found.2) in
    let row : c.as_slice.result.now ≡ row_edges its (Obj n) = c.as_slice.ensures.value ∙ ap (λ o. unwrap_or o []) (sym found.4 ∙ stands.0) in
    subst (λ vs. OnOk c.meet_row.result (HasMet place (g.R.Places.count rows) c.meet_row.new.met (things ++ met_by vs))) row
    (c.meet_row.ensures.met things met (subst (λ a. Contains things (Actor a)) stands.1 (met.owned n there)))

pub returns-in-Some-clause-steps : goal.returns-in-Some-clause-steps
returns-in-Some-clause-steps g c = λ n here.
    let rows = c.args.rows.now in
    let its = g.R.BlockRows.rows rows in
    let found = c.row_at.ensures its c.in-Some.row.now (ap option_copied c.in-Some.is) in
    let stands = stands_there (g.R.Places.place rows) its (g.R.BlockRows.blocks rows) (g.met.R.Places.in_order rows) c.args.dense.now n found.0 found.1 c.requires.together found.3 (here ∙ ap Some found.2) in
    let row = ap length (c.as_slice.ensures.value ∙ ap (λ o. unwrap_or o []) (sym found.4 ∙ stands.0)) in
    on_ok_weaker c.meet_row.result (λ steps. (omega (arith, steps, row, c.tick.ensures), omega (arith, row, c.as_slice.ensures.room.1))) c.meet_row.ensures.steps
