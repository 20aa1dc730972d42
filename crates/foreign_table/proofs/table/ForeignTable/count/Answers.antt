use Rattle.std.proofs.Common.{map, sym, ap, subst, ◌∙◌}
use Rattle.orca_names.specs.Names.{thing_cmp}
use Rattle.plain_list.specs.Rising.{IsAt, IsGap}
use Rattle.letter_kinds.specs.Holdings.{entry_count}
use Rattle.row_store.specs.Memory.{remembered}
use Rattle.foreign_table.specs.Entry.{amount_of, lies_in}
use Rattle.foreign_table.specs.Table.{DoRise, count_on, kept_in}
use Rattle.foreign_table.proofs.Entries.{none_at, value_at}
use Rattle.foreign_table.proofs.Seen.{count_seen, entry_none}
use Rattle.foreign_table.proofs.table.ForeignTable.count.Goals as goal

pub place_of-requires : goal.place_of-requires
place_of-requires c = subst DoRise (sym c.as_slice.ensures.value) c.self.invariant.0

pub returns-in-Ok-clause-count : goal.returns-in-Ok-clause-count
returns-in-Ok-clause-count c =
    let s = c.self.inside in
    let x = c.args.thing in
    let e = c.index.result.now in
    let p = subst (λ es. IsAt thing_cmp (map amount_of es) x c.in-Ok.i) c.as_slice.ensures.value c.in-Ok.ensures in
    let there = value_at s.values.items s.held.items c.self.invariant.0 x c.in-Ok.i e p c.index.ensures in
    c.get.ensures.count
    ∙ sym (count_seen (remembered s.memory) 0 0 (kept_in s.values.items s.held.items) x (e.count, lies_in s.values.items e) there)
    ∙ ap (λ t. count_on t x) c.self.view_is

pub returns-in-Err-clause-count : goal.returns-in-Err-clause-count
returns-in-Err-clause-count c =
    let s = c.self.inside in
    let x = c.args.thing in
    let p = subst (λ es. IsGap thing_cmp (map amount_of es) x c.in-Err.field-0) c.as_slice.ensures.value c.in-Err.ensures in
    let none = none_at s.values.items s.held.items c.self.invariant.0 x c.in-Err.field-0 p in
    ap entry_count (sym (entry_none (remembered s.memory) 0 0 (kept_in s.values.items s.held.items) x none)) ∙ ap (λ t. count_on t x) c.self.view_is
