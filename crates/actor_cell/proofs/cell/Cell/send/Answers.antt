use Rattle.std.proofs.Common.{[], refl, ap, subst, sym}
use Rattle.letter_kinds.specs.Load.{as_load}
use Rattle.foreign_table.specs.Table.{block_at}
use Rattle.actor_cell.specs.Cells.{as_cell}
use Rattle.actor_cell.proofs.Lying.{lie_counted}
use Rattle.actor_cell.proofs.Tells.{SameRows, same_sent, tells_counted}
use Rattle.actor_cell.proofs.cell.Cell.send.Goals as goal

pub returns-clause-told : goal.returns-clause-told
returns-clause-told c =
    let s = c.args.self.now in
    let its = c.send_trace.ensures in
    let rows = subst (λ g. SameRows g (as_cell s).holdings) (sym its.counts) (same_sent _ (as_load c.args.load.now) (as_cell s).holdings) in
    let n = c.send_trace.new in
    tells_counted s.heap n.heap s.foreign n.foreign s.known s.known s.count n.own [] its.heap.0 rows its.blocks.0 (λ x. ap (λ bs. block_at bs x) its.blocks.1) refl refl

pub returns-clause-lie : goal.returns-clause-lie
returns-clause-lie c =
    let s = c.args.self.now in
    let its = c.send_trace.ensures in
    let rows = subst (λ g. SameRows g (as_cell s).holdings) (sym its.counts) (same_sent _ (as_load c.args.load.now) (as_cell s).holdings) in
    lie_counted s.heap c.send_trace.new.heap rows.own its.blocks.0
