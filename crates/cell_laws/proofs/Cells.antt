-- A cell holds and knows others' things alone.
use Rattle.std.proofs.Common.{◌≡◌, ◌≢◌, true, Option, Some, None, is_some, refl, ap, sym, ◌∙◌}
use Rattle.std.specs.Prelude.{option_map}
use Rattle.std.specs.FinMap as m
use Rattle.orca_names.specs.Names.{owner_of}
use Rattle.orca_names.specs.declared.names.Thing.{Thing}
use Rattle.foreign_table.proofs.Mapped.{get-mapped}
use Rattle.row_table.specs.Table.{bare_entry, uncounted}
use Rattle.actor_cell.specs.Cells.{as_cell}
use Rattle.cell_laws.proofs.Holding.{runs_hold_others_only}
use Rattle.cell_laws.proofs.Learning.{runs_know_others_only}
use Rattle.cell_laws.specs.Held.{CellsKnowOthersOnly}

some_mapped : {X Y : Type 0} (f : X → Y) (o : Option X) → is_some (option_map f o) ≡ is_some o
some_mapped f None = refl
some_mapped f (Some x) = refl

pub cells_know_others_only : CellsKnowOthersOnly
cells_know_others_only program options book t short c mail at = (
  runs_hold_others_only program options book t short c.heap.owner (as_cell c) mail at,
  λ x there. runs_know_others_only program options book t short c.heap.owner (as_cell c) mail at x
      (sym (ap is_some (get-mapped (λ x. bare_entry) c.known.rows x) ∙ some_mapped bare_entry (m.get c.known.rows x)) ∙ there),
)
