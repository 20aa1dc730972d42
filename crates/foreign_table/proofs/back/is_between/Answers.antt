use Rattle.orca_names.proofs.ThingOrder.{thing_total}
use Rattle.foreign_table.proofs.Near.{gap_between}
use Rattle.foreign_table.proofs.back.is_between.Goals as goal

pub returns : goal.returns
returns c = λ t. gap_between thing_total c.args.things.now c.requires c.args.thing.now c.args.place c.if-place-things.false (c.is_past.ensures c.if-not-is_past.false) (c.is_ahead.ensures t)
