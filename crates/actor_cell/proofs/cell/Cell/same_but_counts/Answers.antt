use Rattle.std.proofs.Common.{rules}
use Rattle.orca_names.proofs.EqualRows.{args_eq-Decides}
use Rattle.actor_cell.proofs.cell.Cell.same_but_counts.Goals as goal

pub returns-then-eq : goal.returns-then-eq
returns-then-eq c =
    let values = args_eq-Decides c.args.self.now.fields.values c.args.other.now.fields.values in
    search rules

pub returns-else-eq : goal.returns-else-eq
returns-else-eq c =
    let values = args_eq-Decides c.args.self.now.fields.values c.args.other.now.fields.values in
    search rules
