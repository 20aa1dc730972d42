use Rattle.std.proofs.Common.{ap, sym}
use Rattle.std.specs.Prelude.{is_some}
use Rattle.plain_list.proofs.Rising.{find_at, find_gap}
use Rattle.orca_names.proofs.ThingOrder.{thing_total}
use Rattle.foreign_table.proofs.back.is_among.Goals as goal

pub returns-in-Ok : goal.returns-in-Ok
returns-in-Ok c = ap is_some (sym (find_at thing_total c.args.things.now c.args.thing c.in-Ok.field-0 c.in-Ok.ensures (c.args.thing, 0)))

pub returns-in-Err : goal.returns-in-Err
returns-in-Err c = ap is_some (sym (find_gap thing_total c.args.things.now c.args.thing c.in-Err.field-0 c.in-Err.ensures))
