use Rattle.std.proofs.Common.{◌≡◌, Some, subst}
use Rattle.row_store.specs.Memory.{remembered}
use Rattle.letter_kinds.specs.Telling.{TellsNothing}
use Rattle.foreign_table.specs.Table.{AllHere, Table, known_block, known_row, kept_in}
use Rattle.foreign_table.proofs.Seen.{untold_here}
use Rattle.foreign_table.proofs.table.ForeignTable.untold_are_here.Goals as goal

pub returns : goal.returns
returns c =
    let s = c.self.inside in
    subst (λ (t : Table). TellsNothing (λ n row block. (known_row t n ≡ Some row) × (known_block t n ≡ Some block)) → AllHere t) c.self.view_is
    (untold_here (remembered s.memory) 0 0 (kept_in s.values.items s.held.items) c.self.invariant.2)
