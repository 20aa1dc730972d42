use Rattle.orca_names.proofs.ThingOrder.{thing_total}
use Rattle.plain_list.proofs.Rising.{at_place}
use Rattle.foreign_table.proofs.back.place_near.Goals as goal

pub returns-then-is_at : goal.returns-then-is_at
returns-then-is_at c =
    let here = c.is_at.ensures c.if-is_at.true in
    at_place thing_total c.args.things.now c.requires c.args.thing c.args.near here.0 here.1
