use Rattle.std.proofs.Common.{map, sym, ap, subst, ◌∙◌, slice_get}
use Rattle.std.specs.Prelude.{is_some}
use Rattle.std.specs.FinMap as m
use Rattle.plain_list.specs.Rising.{IsAt, IsGap}
use Rattle.orca_names.specs.Names.{thing_cmp}
use Rattle.foreign_table.specs.Entry.{amount_of}
use Rattle.row_store.specs.Memory.{remembered}
use Rattle.foreign_table.specs.Table.{kept_in, seen}
use Rattle.foreign_table.proofs.Entries.{key_here, none_at, is_there}
use Rattle.foreign_table.proofs.Mapped.{keys-mapped, some-mapped}
use Rattle.foreign_table.proofs.table.ForeignTable.place.Goals as goal

pub place_of-requires : goal.place_of-requires
place_of-requires c = rw c.as_slice.ensures.value c.self.invariant.0

pub returns-in-Ok-clause-key : goal.returns-in-Ok-clause-key
returns-in-Ok-clause-key c =
    let s = c.self.inside in
    let p = subst (λ es. IsAt thing_cmp (map amount_of es) c.args.thing.now c.in-Ok.i) c.as_slice.ensures.value c.in-Ok.ensures in
    ap (λ t. slice_get (m.keys t.entries) c.in-Ok.i) (sym c.self.view_is)
    ∙ ap (λ keys. slice_get keys c.in-Ok.i) (keys-mapped (seen (remembered s.memory)) (kept_in s.values.items s.held.items))
    ∙ key_here s.values.items s.held.items c.self.invariant.0 c.args.thing.now c.in-Ok.i p

pub returns-in-Ok-clause-held : goal.returns-in-Ok-clause-held
returns-in-Ok-clause-held c =
    let s = c.self.inside in
    let p = subst (λ es. IsAt thing_cmp (map amount_of es) c.args.thing.now c.in-Ok.i) c.as_slice.ensures.value c.in-Ok.ensures in
    sym (is_there s.values.items s.held.items c.self.invariant.0 c.args.thing.now c.in-Ok.i p)
    ∙ sym (some-mapped (seen (remembered s.memory)) (kept_in s.values.items s.held.items) c.args.thing.now)
    ∙ ap (λ t. is_some (m.get t.entries c.args.thing.now)) c.self.view_is

pub returns-in-Err-clause-held : goal.returns-in-Err-clause-held
returns-in-Err-clause-held c =
    let s = c.self.inside in
    let p = subst (λ es. IsGap thing_cmp (map amount_of es) c.args.thing.now c.in-Err.field-0) c.as_slice.ensures.value c.in-Err.ensures in
    sym (ap (λ t. is_some (m.get t.entries c.args.thing.now)) (sym c.self.view_is)
    ∙ some-mapped (seen (remembered s.memory)) (kept_in s.values.items s.held.items) c.args.thing.now
    ∙ ap is_some (none_at s.values.items s.held.items c.self.invariant.0 c.args.thing.now c.in-Err.field-0 p))
