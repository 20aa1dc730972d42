use Rattle.std.proofs.Common.{ap, arith}
use Rattle.std.specs.FinMap as m
use Rattle.row_store.specs.Memory.{remembered}
use Rattle.foreign_table.specs.Table.{block_seen, kept_in, seen}
use Rattle.foreign_table.proofs.Entries.{len_here}
use Rattle.foreign_table.proofs.Mapped.{len-mapped}
use Rattle.foreign_table.proofs.table.ForeignTable.len.Goals as goal

pub returns-clause-count : goal.returns-clause-count
returns-clause-count c =
    let e = len_here c.self.inside.values.items c.self.inside.held.items c.self.invariant.0 in
    let f = ap (λ t. m.len t.entries) c.self.view_is in
    let same = len-mapped (seen (remembered c.self.inside.memory)) (kept_in c.self.inside.values.items c.self.inside.held.items) in
    omega (arith, c.self.inside.held.ok.0)

pub returns-clause-blocks : goal.returns-clause-blocks
returns-clause-blocks c =
    let s = c.self.inside in
    let e = len_here s.values.items s.held.items c.self.invariant.0 in
    let f = ap (λ t. m.len t.blocks) c.self.view_is in
    let same = len-mapped block_seen (kept_in s.values.items s.held.items) in
    omega (arith, s.held.ok.0)

pub returns-clause-bound : goal.returns-clause-bound
returns-clause-bound c = omega (arith, c.self.inside.held.ok.1, c.self.inside.held.small, c.len.ensures)
