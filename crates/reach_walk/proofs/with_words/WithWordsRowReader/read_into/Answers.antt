use Rattle.std.proofs.Common.{Some, ap, subst, sym, ◌∙◌}
use Rattle.row_store.specs.Lent.{IsLent}
use Rattle.reach_walk.proofs.Blocks.{row_lies}
use Rattle.reach_walk.proofs.with_words.WithWordsRowReader.read_into.Goals as goal

pub set_values-requires : goal.set_values-requires
set_values-requires g c =
    let s = c.args.self.now in
    let n = c.args.n in
    let lent = subst (IsLent (g.R.BlockRows.rows s.rows.now n) (g.R.BlockRows.blocks s.rows.now n)) c.in-Here.is c.row_of.ensures in
    (lent.2, lent.3)

pub read_block-requires : goal.read_block-requires
read_block-requires g c =
    let s = c.args.self.now in
    let n = c.args.n in
    let its = g.R.BlockRows.rows s.rows.now in
    let blocks = g.R.BlockRows.blocks s.rows.now in
    let lies = row_lies its blocks (g.W.RowWords.known s.words.now) s.stand n c.in-In.block (subst (IsLent (its n) (blocks n)) c.in-In.is c.row_of.ensures) in
    (lies.0, lies.2, lies.3)

pub returns-in-Nothing-clause-row : goal.returns-in-Nothing-clause-row
returns-in-Nothing-clause-row g c =
    let s = c.args.self.now in
    let n = c.args.n in
    let lent = subst (IsLent (g.R.BlockRows.rows s.rows.now n) (g.R.BlockRows.blocks s.rows.now n)) c.in-Nothing.is c.row_of.ensures in
    lent.0

pub returns-in-Here-clause-row : goal.returns-in-Here-clause-row
returns-in-Here-clause-row g c =
    let s = c.args.self.now in
    let n = c.args.n in
    let lent = subst (IsLent (g.R.BlockRows.rows s.rows.now n) (g.R.BlockRows.blocks s.rows.now n)) c.in-Here.is c.row_of.ensures in
    lent.0 ∙ ap Some (sym c.set_values.ensures)

pub returns-in-In-clause-row : goal.returns-in-In-clause-row
returns-in-In-clause-row g c =
    let s = c.args.self.now in
    let n = c.args.n in
    let its = g.R.BlockRows.rows s.rows.now in
    let blocks = g.R.BlockRows.blocks s.rows.now in
    let lies = row_lies its blocks (g.W.RowWords.known s.words.now) s.stand n c.in-In.block (subst (IsLent (its n) (blocks n)) c.in-In.is c.row_of.ensures) in
    lies.1 ∙ ap Some (sym (c.read_block.ensures.row lies.0 lies.3))
