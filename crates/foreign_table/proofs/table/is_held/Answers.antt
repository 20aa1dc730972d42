use Rattle.std.proofs.Common.{sym, ap}
use Rattle.std.specs.Prelude.{is_some}
use Rattle.foreign_table.proofs.Entries.{is_there, none_at}
use Rattle.foreign_table.proofs.table.is_held.Goals as goal

pub returns-in-Ok : goal.returns-in-Ok
returns-in-Ok c = λ values. sym (is_there values c.args.held.now c.requires c.args.thing c.in-Ok.field-0 c.in-Ok.ensures)

pub returns-in-Err : goal.returns-in-Err
returns-in-Err c = λ values. sym (ap is_some (none_at values c.args.held.now c.requires c.args.thing c.in-Err.field-0 c.in-Err.ensures))
