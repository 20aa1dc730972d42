use Rattle.std.proofs.Common.{◌≡◌, ◌↔◌, [], IsTrue, length, refl, sym, ap, subst, arith}
use Rattle.std.specs.Prelude.{unwrap_or}
use Rattle.row_store.specs.Lent.{IsLent}
use Rattle.reach_walk.specs.Reach.{named_by}
use Rattle.reach_walk.proofs.Blocks.{row_lies}
use Rattle.reach_walk.proofs.flat.leads_nowhere.Goals as goal

pub block_names_nothing-requires : goal.block_names_nothing-requires
block_names_nothing-requires g c =
    let rows = c.args.rows.now in
    let its = g.R.BlockRows.rows rows in
    let blocks = g.R.BlockRows.blocks rows in
    let n = c.args.n.now in
    let lies = row_lies its blocks (g.W.RowWords.known c.args.words.now) c.requires n c.in-In.block (subst (IsLent (its n) (blocks n)) c.in-In.is c.row_of.ensures) in
    (lies.0, lies.2, lies.3)

pub returns-in-Nothing-clause-flat : goal.returns-in-Nothing-clause-flat
returns-in-Nothing-clause-flat g c =
    let rows = c.args.rows.now in
    let n = c.args.n.now in
    let lent = subst (IsLent (g.R.BlockRows.rows rows n) (g.R.BlockRows.blocks rows n)) c.in-Nothing.is c.row_of.ensures in
    (λ _. ap (λ o. named_by (unwrap_or o [])) lent.0, λ _. refl)

pub returns-in-Nothing-clause-all : goal.returns-in-Nothing-clause-all
returns-in-Nothing-clause-all g c = λ _.
    let rows = c.args.rows.now in
    let n = c.args.n.now in
    let lent = subst (IsLent (g.R.BlockRows.rows rows n) (g.R.BlockRows.blocks rows n)) c.in-Nothing.is c.row_of.ensures in
    omega (arith, c.tick.ensures, ap (λ o. length (unwrap_or o [])) lent.0)

pub returns-in-Here-clause-flat : goal.returns-in-Here-clause-flat
returns-in-Here-clause-flat g c =
    let rows = c.args.rows.now in
    let n = c.args.n.now in
    let lent = subst (IsLent (g.R.BlockRows.rows rows n) (g.R.BlockRows.blocks rows n)) c.in-Here.is c.row_of.ensures in
    subst (λ vs. IsTrue c.names_nothing_within.result ↔ (named_by vs ≡ [])) (ap (λ o. unwrap_or o []) (sym lent.0)) c.names_nothing_within.ensures.nothing

pub returns-in-Here-clause-all : goal.returns-in-Here-clause-all
returns-in-Here-clause-all g c = λ is.
    let rows = c.args.rows.now in
    let n = c.args.n.now in
    let lent = subst (IsLent (g.R.BlockRows.rows rows n) (g.R.BlockRows.blocks rows n)) c.in-Here.is c.row_of.ensures in
    omega (arith, c.tick.ensures, c.names_nothing_within.ensures.all is, ap (λ o. length (unwrap_or o [])) lent.0)

pub returns-in-Here-clause-steps : goal.returns-in-Here-clause-steps
returns-in-Here-clause-steps g c =
    let rows = c.args.rows.now in
    let n = c.args.n.now in
    let lent = subst (IsLent (g.R.BlockRows.rows rows n) (g.R.BlockRows.blocks rows n)) c.in-Here.is c.row_of.ensures in
    let looked = c.names_nothing_within.ensures in
    (omega (arith, c.tick.ensures, looked.least), omega (arith, c.tick.ensures, looked.most, lent.3))

pub returns-in-In-clause-flat : goal.returns-in-In-clause-flat
returns-in-In-clause-flat g c =
    let rows = c.args.rows.now in
    let its = g.R.BlockRows.rows rows in
    let blocks = g.R.BlockRows.blocks rows in
    let n = c.args.n.now in
    let lies = row_lies its blocks (g.W.RowWords.known c.args.words.now) c.requires n c.in-In.block (subst (IsLent (its n) (blocks n)) c.in-In.is c.row_of.ensures) in
    subst (λ vs. IsTrue c.block_names_nothing.result ↔ (named_by vs ≡ [])) (ap (λ o. unwrap_or o []) (sym lies.1)) (c.block_names_nothing.ensures.nothing lies.0 lies.3)

pub returns-in-In-clause-all : goal.returns-in-In-clause-all
returns-in-In-clause-all g c = λ is.
    let rows = c.args.rows.now in
    let its = g.R.BlockRows.rows rows in
    let blocks = g.R.BlockRows.blocks rows in
    let n = c.args.n.now in
    let lies = row_lies its blocks (g.W.RowWords.known c.args.words.now) c.requires n c.in-In.block (subst (IsLent (its n) (blocks n)) c.in-In.is c.row_of.ensures) in
    omega (arith, c.tick.ensures, c.block_names_nothing.ensures.all lies.0 lies.3 is, ap (λ o. length (unwrap_or o [])) lies.1)

pub returns-in-In-clause-steps : goal.returns-in-In-clause-steps
returns-in-In-clause-steps g c =
    let looked = c.block_names_nothing.ensures.steps in
    (omega (arith, c.tick.ensures, looked.0), omega (arith, c.tick.ensures, looked.1))
