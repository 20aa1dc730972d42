use Rattle.std.proofs.Common.{subst}
use Rattle.row_store.specs.Memory.{remembered}
use Rattle.row_store.specs.Standing.{AreRemembered}
use Rattle.foreign_table.specs.Table.{known_block, known_row, kept_in}
use Rattle.foreign_table.proofs.Seen.{are_remembered}
use Rattle.foreign_table.proofs.table.ForeignTable.memory.Goals as goal

pub returns : goal.returns
returns c =
    let s = c.self.inside in
    let memory = remembered s.memory in
    subst (λ t. AreRemembered (known_row t) (known_block t) memory) c.self.view_is
    (are_remembered memory 0 0 (kept_in s.values.items s.held.items) c.self.invariant.2)
