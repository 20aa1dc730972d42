use Rattle.std.proofs.Common.{map, sym, ap, subst, ◌∙◌}
use Rattle.std.specs.FinMap as m
use Rattle.foreign_table.specs.declared.search.Entry.{Entry}
use Rattle.foreign_table.specs.Span.{IsSpan}
use Rattle.foreign_table.specs.Table.{DoRise, kept_in, seen}
use Rattle.row_store.specs.Memory.{remembered}
use Rattle.foreign_table.proofs.Entries.{keys_here}
use Rattle.foreign_table.proofs.Mapped.{keys-mapped}
use Rattle.foreign_table.proofs.table.ForeignTable.span.Goals as goal

pub span-requires : goal.span-requires
span-requires c = subst DoRise (sym c.as_slice.ensures.value) c.self.invariant.0

pub returns : goal.returns
returns c =
    let s = c.self.inside in
    let keys = ap (map (λ (e : Entry). e.thing)) c.as_slice.ensures.value ∙ sym (keys_here s.values.items s.held.items c.self.invariant.0)
    ∙ sym (keys-mapped (seen (remembered s.memory)) (kept_in s.values.items s.held.items)) ∙ ap (λ t. m.keys t.entries) c.self.view_is in
    subst (λ things. IsSpan c.args.owner things c.span.result.0 c.span.result.1) keys c.span.ensures
