use Rattle.std.proofs.Common.{◌+◌, sym, ap, ◌∙◌}
use Rattle.std.specs.List.{copy_within}
use Rattle.foreign_table.proofs.Sweep.{moved_nowhere}
use Rattle.foreign_table.proofs.keep.move_row.Goals as goal

pub returns-then-to-first-clause-items : goal.returns-then-to-first-clause-items
returns-then-to-first-clause-items c =
    sym (ap (copy_within c.args.values.now.items c.args.first (c.args.first + c.args.count)) c.if-to-first.true ∙ moved_nowhere c.args.values.now.items c.args.first c.args.count)
