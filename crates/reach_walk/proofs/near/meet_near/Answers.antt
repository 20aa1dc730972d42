use Rattle.std.proofs.Common.{◌++◌, ◌∷◌, [], Contains, sym, subst}
use Rattle.std.specs.Prelude.{OnOk}
use Rattle.orca_names.specs.declared.names.Thing.TheVariants.{Actor}
use Rattle.reach_walk.specs.Met.{HasMet, met_by}
use Rattle.reach_walk.proofs.near.meet_near.Goals as goal

pub meet_placed-requires-clause-place : goal.meet_placed-requires-clause-place
meet_placed-requires-clause-place g c =
    let rows = c.args.rows.now in
    (c.in-Some.ensures.place (g.R.Places.place rows) (g.R.BlockRows.rows rows) (g.R.BlockRows.blocks rows) c.requires.together).1

pub returns-in-Some-clause-met : goal.returns-in-Some-clause-met
returns-in-Some-clause-met g c = λ things met owned.
    let rows = c.args.rows.now in
    let place = g.R.Places.place rows in
    let owner = (c.in-Some.ensures.place place (g.R.BlockRows.rows rows) (g.R.BlockRows.blocks rows) c.requires.together).0 in
    subst (λ v. OnOk c.meet_placed.result (HasMet place (g.R.Places.count rows) c.meet_placed.new.self (things ++ met_by (v ∷ [])))) (sym c.in-Obj.is)
    (c.meet_placed.ensures.met things met (subst (λ a. Contains things (Actor a)) (sym owner) owned))
