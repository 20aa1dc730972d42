use Rattle.std.proofs.Common.{◌∙◌, sym}
use Rattle.block_table.proofs.Telling.{has_object}
use Rattle.table_check.proofs.block_table_tests.gives_back.Goals as goal

pub give_back-requires : goal.give_back-requires
give_back-requires c = has_object c.args.table.now c.args.block c.in-Some.field-0 (sym c.object.ensures ∙ c.in-Some.is)
