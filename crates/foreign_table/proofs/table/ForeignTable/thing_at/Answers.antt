use Rattle.std.proofs.Common.{◌<◌, length, slice_get, sym, ap, ◌∙◌, arith}
use Rattle.std.specs.FinMap as m
use Rattle.row_store.specs.Memory.{remembered}
use Rattle.foreign_table.specs.Table.{kept_in, seen}
use Rattle.foreign_table.proofs.Entries.{len_here, key_there}
use Rattle.foreign_table.proofs.Mapped.{keys-mapped, len-mapped}
use Rattle.foreign_table.proofs.table.ForeignTable.thing_at.Goals as goal

pub index-requires : goal.index-requires
index-requires c =
    let e = len_here c.self.inside.values.items c.self.inside.held.items c.self.invariant.0 in
    let f = ap (λ t. m.len t.entries) c.self.view_is in
    let same = len-mapped (seen (remembered c.self.inside.memory)) (kept_in c.self.inside.values.items c.self.inside.held.items) in
    omega (arith, c.self.inside.held.ok.0)

pub returns : goal.returns
returns c =
    let s = c.self.inside in
    let e = len_here c.self.inside.values.items s.held.items c.self.invariant.0 in
    let f = ap (λ t. m.len t.entries) c.self.view_is in
    let same = len-mapped (seen (remembered c.self.inside.memory)) (kept_in c.self.inside.values.items c.self.inside.held.items) in
    let l : c.args.i < length s.held.items = omega arith in
    ap (λ t. slice_get (m.keys t.entries) c.args.i) (sym c.self.view_is)
    ∙ ap (λ keys. slice_get keys c.args.i) (keys-mapped (seen (remembered s.memory)) (kept_in s.values.items s.held.items))
    ∙ key_there c.self.inside.values.items s.held.items c.self.invariant.0 c.args.i c.index.result.now l c.index.ensures
