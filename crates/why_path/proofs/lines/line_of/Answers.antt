use Rattle.std.proofs.Common.{Some, sym, ap, ◌∙◌}
use Rattle.why_path.proofs.Finding.{line_at, line_gap}
use Rattle.why_path.proofs.lines.line_of.Goals as goal

pub returns-in-Ok : goal.returns-in-Ok
returns-in-Ok c =
    ap Some c.index-reasons-i.is
    ∙ sym (line_at c.args.thing.now c.args.reasons.now c.requires c.in-Ok.i c.in-Ok.ensures c.index-reasons-i.result)

pub returns-in-Err : goal.returns-in-Err
returns-in-Err c =
    sym (line_gap c.args.thing.now c.args.reasons.now c.in-Err.field-0 c.in-Err.ensures)
