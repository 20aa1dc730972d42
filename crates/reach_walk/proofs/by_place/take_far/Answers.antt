use Rattle.std.proofs.Common.{◌≡◌, ◌++◌, [], length, sym, ap, subst, arith}
use Rattle.std.specs.Prelude.{OnOk, unwrap_or}
use Rattle.std.proofs.lemmas.List.{append-nil}
use Rattle.std.proofs.lemmas.Result.{on_ok_weaker}
use Rattle.orca_names.specs.declared.names.Thing.TheVariants.{Obj}
use Rattle.row_store.specs.Lent.{IsLent}
use Rattle.row_store.specs.Told.{thing_block, thing_row}
use Rattle.row_store.specs.declared.lent.Lent.TheVariants.{Nothing, Here, In}
use Rattle.reach_walk.specs.Met.{HasMet, met_by}
use Rattle.reach_walk.specs.Reach.{row_edges}
use Rattle.reach_walk.proofs.Blocks.{has_row, row_lies}
use Rattle.reach_walk.proofs.ByPlaces.{lent_there}
use Rattle.reach_walk.proofs.by_place.take_far.Goals as goal

pub meet_block-requires-clause-known : goal.meet_block-requires-clause-known
meet_block-requires-clause-known g c =
    let rows = c.args.rows.now in
    let its = g.R.BlockRows.rows rows in
    let blocks = g.R.BlockRows.blocks rows in
    let x = c.entry_at.result.0 in
    has_row its blocks (g.W.RowWords.known c.args.words.now) c.requires.stand x c.in-In.block
    (subst (IsLent (thing_row its x) (thing_block blocks x)) c.in-In.is (c.entry_at.ensures.row c.requires.within))

pub returns-in-Nothing-clause-met : goal.returns-in-Nothing-clause-met
returns-in-Nothing-clause-met g c = λ things n met there here.
    let rows = c.args.rows.now in
    let place = g.R.Places.place rows in
    let its = g.R.BlockRows.rows rows in
    let blocks = g.R.BlockRows.blocks rows in
    let lent = lent_there place (g.met.R.Places.in_order rows) its blocks (g.R.Places.count rows) c.entry_at.result.0 n c.args.at c.entry_at.result.1 Nothing (g.met.R.Places.below rows) c.entry_at.ensures.thing c.entry_at.ensures.row here c.in-Nothing.is in
    let row : [] ≡ row_edges its (Obj n) = ap (λ o. unwrap_or o []) (sym lent.0) in
    let has = HasMet place (g.R.Places.count rows) c.args.met.now in
    subst (λ vs. has (things ++ met_by vs)) row (subst has (sym (append-nil things)) met)

pub returns-in-Here-clause-met : goal.returns-in-Here-clause-met
returns-in-Here-clause-met g c = λ things n met there here.
    let rows = c.args.rows.now in
    let place = g.R.Places.place rows in
    let its = g.R.BlockRows.rows rows in
    let blocks = g.R.BlockRows.blocks rows in
    let lent = lent_there place (g.met.R.Places.in_order rows) its blocks (g.R.Places.count rows) c.entry_at.result.0 n c.args.at c.entry_at.result.1 (Here c.in-Here.values) (g.met.R.Places.below rows) c.entry_at.ensures.thing c.entry_at.ensures.row here c.in-Here.is in
    subst (λ vs. OnOk c.meet_all.result (HasMet place (g.R.Places.count rows) c.meet_all.new.self (things ++ met_by vs))) (ap (λ o. unwrap_or o []) (sym lent.0)) (c.meet_all.ensures.met things met)

pub returns-in-In-clause-met : goal.returns-in-In-clause-met
returns-in-In-clause-met g c = λ things n met there here.
    let rows = c.args.rows.now in
    let place = g.R.Places.place rows in
    let its = g.R.BlockRows.rows rows in
    let blocks = g.R.BlockRows.blocks rows in
    let lent = lent_there place (g.met.R.Places.in_order rows) its blocks (g.R.Places.count rows) c.entry_at.result.0 n c.args.at c.entry_at.result.1 (In c.in-In.block) (g.met.R.Places.below rows) c.entry_at.ensures.thing c.entry_at.ensures.row here c.in-In.is in
    let lies = row_lies its blocks (g.W.RowWords.known c.args.words.now) c.requires.stand n c.in-In.block lent in
    subst (λ vs. OnOk c.meet_block.result (HasMet place (g.R.Places.count rows) c.meet_block.new.met (things ++ met_by vs))) (ap (λ o. unwrap_or o []) (sym lies.1)) (c.meet_block.ensures.met lies.0 lies.3 things met)

pub returns-in-Nothing-clause-steps : goal.returns-in-Nothing-clause-steps
returns-in-Nothing-clause-steps g c = λ n here.
    let rows = c.args.rows.now in
    let its = g.R.BlockRows.rows rows in
    let blocks = g.R.BlockRows.blocks rows in
    let lent = lent_there (g.R.Places.place rows) (g.met.R.Places.in_order rows) its blocks (g.R.Places.count rows) c.entry_at.result.0 n c.args.at c.entry_at.result.1 Nothing (g.met.R.Places.below rows) c.entry_at.ensures.thing c.entry_at.ensures.row here c.in-Nothing.is in
    let row = ap (λ o. length (unwrap_or o [])) lent.0 in
    (omega (arith, row, c.tick.ensures), omega (arith, row))

pub returns-in-Here-clause-steps : goal.returns-in-Here-clause-steps
returns-in-Here-clause-steps g c = λ n here.
    let rows = c.args.rows.now in
    let its = g.R.BlockRows.rows rows in
    let blocks = g.R.BlockRows.blocks rows in
    let lent = lent_there (g.R.Places.place rows) (g.met.R.Places.in_order rows) its blocks (g.R.Places.count rows) c.entry_at.result.0 n c.args.at c.entry_at.result.1 (Here c.in-Here.values) (g.met.R.Places.below rows) c.entry_at.ensures.thing c.entry_at.ensures.row here c.in-Here.is in
    let row = ap (λ o. length (unwrap_or o [])) lent.0 in
    on_ok_weaker c.meet_all.result (λ steps. (omega (arith, steps, row, c.tick.ensures), omega (arith, row, lent.3))) c.meet_all.ensures.steps

pub returns-in-In-clause-steps : goal.returns-in-In-clause-steps
returns-in-In-clause-steps g c = λ n here.
    let rows = c.args.rows.now in
    let its = g.R.BlockRows.rows rows in
    let blocks = g.R.BlockRows.blocks rows in
    let lent = lent_there (g.R.Places.place rows) (g.met.R.Places.in_order rows) its blocks (g.R.Places.count rows) c.entry_at.result.0 n c.args.at c.entry_at.result.1 (In c.in-In.block) (g.met.R.Places.below rows) c.entry_at.ensures.thing c.entry_at.ensures.row here c.in-In.is in
    let lies = row_lies its blocks (g.W.RowWords.known c.args.words.now) c.requires.stand n c.in-In.block lent in
    let row = ap (λ o. length (unwrap_or o [])) lies.1 in
    on_ok_weaker c.meet_block.result (λ steps. (omega (arith, steps, row, c.tick.ensures), omega (arith, row, lies.2.few))) (c.meet_block.ensures.steps lies.0 lies.3)
