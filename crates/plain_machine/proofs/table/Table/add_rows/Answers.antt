use Rattle.std.proofs.Common.{length, sym, ◌∙◌}
use Rattle.std.proofs.lemmas.Bool.{eqb-true}
use Rattle.plain_machine.proofs.Undoing.{no_rows}
use Rattle.plain_machine.proofs.table.Table.add_rows.Goals as goal

pub returns-else-not-is_empty-clause-ok : goal.returns-else-not-is_empty-clause-ok
returns-else-not-is_empty-clause-ok c =
    sym (no_rows c.args.self.now c.args.a c.args.made.now (eqb-true (length c.args.made.now) 0 (sym c.is_empty.ensures ∙ c.if-not-is_empty.false)))
