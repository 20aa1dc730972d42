use Rattle.std.proofs.Common.{None, ap, sym, ◌∙◌}
use Rattle.std.specs.Prelude.{option_copied}
use Rattle.row_store.specs.Told.{thing_block, thing_row, told_block, told_row}
use Rattle.reach_walk.proofs.telling.ReadingTellsRows.tell.Goals as goal

pub returns-in-Actor-clause-row : goal.returns-in-Actor-clause-row
returns-in-Actor-clause-row g c = ap (thing_row (g.R.Rows.rows c.args.self.now.rows.now)) (sym c.in-Actor.is)

pub returns-in-Actor-clause-block : goal.returns-in-Actor-clause-block
returns-in-Actor-clause-block g c = ap (thing_block (λ _. None)) (sym c.in-Actor.is)

pub returns-in-Some-clause-row : goal.returns-in-Some-clause-row
returns-in-Some-clause-row g c =
    let its = g.R.Rows.rows c.args.self.now.rows.now in
    ap (told_row its c.args.thing.now) c.tell_here.ensures ∙ sym (ap option_copied c.in-Some.is) ∙ c.row_of.ensures.row ∙ ap (thing_row its) (sym c.in-Obj.is)

pub returns-in-Some-clause-block : goal.returns-in-Some-clause-block
returns-in-Some-clause-block g c = ap told_block c.tell_here.ensures ∙ ap (thing_block (λ _. None)) (sym c.in-Obj.is)

pub returns-in-None-clause-row : goal.returns-in-None-clause-row
returns-in-None-clause-row g c =
    sym (ap option_copied c.in-None.is) ∙ c.row_of.ensures.row ∙ ap (thing_row (g.R.Rows.rows c.args.self.now.rows.now)) (sym c.in-Obj.is)

pub returns-in-None-clause-block : goal.returns-in-None-clause-block
returns-in-None-clause-block g c = ap (thing_block (λ _. None)) (sym c.in-Obj.is)
