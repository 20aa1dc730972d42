use Rattle.std.proofs.Common.{[]}
use Rattle.actor_table.proofs.Telling.{with_told}
use Rattle.actor_table.proofs.change.CollectChanges.apply.Goals as goal

pub returns-clause-told : goal.returns-clause-told
returns-clause-told c = with_told c.args.cell.now c.apply_collect.new.self c.args._mail.now.brought [] c.apply_collect.ensures.told

pub returns-clause-lie : goal.returns-clause-lie
returns-clause-lie c = λ _. c.apply_collect.ensures.lie
