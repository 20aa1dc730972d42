use Rattle.std.proofs.Common.{ap, subst, sym, ◌∙◌}
use Rattle.row_store.specs.Lent.{IsLent}
use Rattle.row_store.specs.Told.{thing_block, thing_row, told_block, told_row}
use Rattle.reach_walk.proofs.with_words.WithWordsTellsRows.tell.Goals as goal

pub tell_here-requires : goal.tell_here-requires
tell_here-requires g c =
    let s = c.args.self.now in
    let n = c.in-Obj.n in
    let lent = subst (IsLent (g.R.BlockRows.rows s.rows.now n) (g.R.BlockRows.blocks s.rows.now n)) c.in-Here.is c.row_of.ensures in
    (lent.2, lent.3)

pub returns-in-Actor-clause-row : goal.returns-in-Actor-clause-row
returns-in-Actor-clause-row g c = ap (thing_row (g.R.BlockRows.rows c.args.self.now.rows.now)) (sym c.in-Actor.is)

pub returns-in-Actor-clause-block : goal.returns-in-Actor-clause-block
returns-in-Actor-clause-block g c = ap (thing_block (g.R.BlockRows.blocks c.args.self.now.rows.now)) (sym c.in-Actor.is)

pub returns-in-Nothing-clause-row : goal.returns-in-Nothing-clause-row
returns-in-Nothing-clause-row g c =
    let s = c.args.self.now in
    let n = c.in-Obj.n in
    let lent = subst (IsLent (g.R.BlockRows.rows s.rows.now n) (g.R.BlockRows.blocks s.rows.now n)) c.in-Nothing.is c.row_of.ensures in
    sym lent.0 ∙ ap (thing_row (g.R.BlockRows.rows s.rows.now)) (sym c.in-Obj.is)

pub returns-in-Nothing-clause-block : goal.returns-in-Nothing-clause-block
returns-in-Nothing-clause-block g c =
    let s = c.args.self.now in
    let n = c.in-Obj.n in
    let lent = subst (IsLent (g.R.BlockRows.rows s.rows.now n) (g.R.BlockRows.blocks s.rows.now n)) c.in-Nothing.is c.row_of.ensures in
    sym lent.1 ∙ ap (thing_block (g.R.BlockRows.blocks s.rows.now)) (sym c.in-Obj.is)

pub returns-in-Here-clause-row : goal.returns-in-Here-clause-row
returns-in-Here-clause-row g c =
    let s = c.args.self.now in
    let n = c.in-Obj.n in
    let its = g.R.BlockRows.rows s.rows.now in
    let lent = subst (IsLent (its n) (g.R.BlockRows.blocks s.rows.now n)) c.in-Here.is c.row_of.ensures in
    ap (told_row its c.args.thing.now) c.tell_here.ensures ∙ sym lent.0 ∙ ap (thing_row its) (sym c.in-Obj.is)

pub returns-in-Here-clause-block : goal.returns-in-Here-clause-block
returns-in-Here-clause-block g c =
    let s = c.args.self.now in
    let n = c.in-Obj.n in
    let lent = subst (IsLent (g.R.BlockRows.rows s.rows.now n) (g.R.BlockRows.blocks s.rows.now n)) c.in-Here.is c.row_of.ensures in
    ap told_block c.tell_here.ensures ∙ sym lent.1 ∙ ap (thing_block (g.R.BlockRows.blocks s.rows.now)) (sym c.in-Obj.is)

pub returns-in-In-clause-block : goal.returns-in-In-clause-block
returns-in-In-clause-block g c =
    let s = c.args.self.now in
    let n = c.in-Obj.n in
    let lent = subst (IsLent (g.R.BlockRows.rows s.rows.now n) (g.R.BlockRows.blocks s.rows.now n)) c.in-In.is c.row_of.ensures in
    sym lent.1 ∙ ap (thing_block (g.R.BlockRows.blocks s.rows.now)) (sym c.in-Obj.is)
