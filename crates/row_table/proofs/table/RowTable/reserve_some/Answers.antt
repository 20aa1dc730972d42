use Rattle.std.proofs.Common.{sym, ap, subst, ◌∙◌}
use Rattle.foreign_table.specs.Table.{Table}
use Rattle.row_table.specs.Table.{IsUncounted, KnownRows, known_by, known_in, row_in, rows_in}
use Rattle.foreign_table.proofs.Mapped.{mapped-empty}
use Rattle.row_table.proofs.Mapped.{none_uncounted}
use Rattle.row_table.proofs.table.RowTable.reserve_some.Goals as goal

pub invariant_of-self-in-None : goal.invariant_of-self-in-None
invariant_of-self-in-None c =
    let none = c.reserve_in-in-None.ensures.same.0 ∙ ap (λ (t : Table). t.entries) c.new-table.ensures in
    subst IsUncounted (sym c.in_ok-new-in-None.ensures.ok) (none_uncounted c.reserve_in-in-None.new.table none)

pub returns-in_ok-new-in-None-clause-same : goal.returns-in_ok-new-in-None-clause-same
returns-in_ok-new-in-None-clause-same c =
    let none = c.reserve_in-in-None.ensures.same.0 ∙ ap (λ (t : Table). t.entries) c.new-table.ensures in
    let nowhere = c.reserve_in-in-None.ensures.same.1 ∙ ap (λ (t : Table). t.blocks) c.new-table.ensures in (
      ap (λ (t : Table). (known_by t).rows) c.in_ok-new-in-None.ensures.ok ∙ ap rows_in none ∙ mapped-empty (λ x. row_in)
          ∙ sym (sym (ap (λ (k : KnownRows). k.rows) c.self.view_is) ∙ ap (λ o. (known_in o).rows) c.in-None.is),
      ap (λ (t : Table). (known_by t).blocks) c.in_ok-new-in-None.ensures.ok ∙ nowhere
          ∙ sym (sym (ap (λ (k : KnownRows). k.blocks) c.self.view_is) ∙ ap (λ o. (known_in o).blocks) c.in-None.is),
    )
