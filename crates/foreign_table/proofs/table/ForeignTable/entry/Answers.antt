use Rattle.std.proofs.Common.{ℕ, Option, Some, length, map, sym, ap, subst, ◌∙◌, arith}
use Rattle.std.specs.FinMap as m
use Rattle.plain_list.specs.Rising.{IsAt, IsGap}
use Rattle.orca_names.specs.Names.{thing_cmp}
use Rattle.row_store.specs.Lent.{IsLent}
use Rattle.row_store.specs.Memory.{remembered}
use Rattle.foreign_table.specs.Entry.{amount_of, lies_in}
use Rattle.foreign_table.specs.Table.{Table, block_at, kept_in, row_seen}
use Rattle.foreign_table.proofs.Entries.{key_of, none_at, place_within, value_at}
use Rattle.foreign_table.proofs.Rows.{stands}
use Rattle.foreign_table.proofs.Seen.{entry_none, entry_seen, lent_seen, place_seen}
use Rattle.foreign_table.proofs.table.ForeignTable.entry.Goals as goal

pub lend-row-requires-clause-within : goal.lend-row-requires-clause-within
lend-row-requires-clause-within c =
    let s = c.self.inside in
    let p = subst (λ es. IsAt thing_cmp (map amount_of es) c.args.thing c.in-Ok.i) c.as_slice.ensures.value c.in-Ok.ensures in
    let here = stands s.held.items s.values.items c.self.invariant.1 c.in-Ok.i c.index-entry.result.now (place_within s.held.items c.args.thing c.in-Ok.i p) c.index-entry.ensures in
    omega (arith, here.within, ap length c.as_slice-in-Ok.ensures.value)

pub lend-row-requires-clause-few : goal.lend-row-requires-clause-few
lend-row-requires-clause-few c =
    let s = c.self.inside in
    let p = subst (λ es. IsAt thing_cmp (map amount_of es) c.args.thing c.in-Ok.i) c.as_slice.ensures.value c.in-Ok.ensures in
    (stands s.held.items s.values.items c.self.invariant.1 c.in-Ok.i c.index-entry.result.now (place_within s.held.items c.args.thing c.in-Ok.i p) c.index-entry.ensures).few

pub returns-in-Ok-clause-entry : goal.returns-in-Ok-clause-entry
returns-in-Ok-clause-entry c =
    let s = c.self.inside in
    let vs = s.values.items in
    let es = s.held.items in
    let kept = kept_in vs es in
    let memory = remembered s.memory in
    let x = c.args.thing in
    let e = c.index-entry.result.now in
    let p = subst (λ es. IsAt thing_cmp (map amount_of es) x c.in-Ok.i) c.as_slice.ensures.value c.in-Ok.ensures in
    let there = value_at vs es c.self.invariant.0 x c.in-Ok.i e p c.index-entry.ensures in
    let key = key_of vs es c.self.invariant.0 x c.in-Ok.i e p c.index-entry.ensures in
    let block = place_seen memory 0 0 kept x (e.count, lies_in vs e) there in (
      row_seen memory x (lies_in vs e),
      ap (λ t. m.get t.entries x) (sym c.self.view_is)
          ∙ entry_seen memory 0 0 kept x (e.count, lies_in vs e) there
          ∙ (λ j. Some (sym c.get.ensures.count j, row_seen memory x (lies_in vs e))),
      subst (λ (t : Table). IsLent (row_seen memory x (lies_in vs e)) (block_at t.blocks x) c.lend-row.result) c.self.view_is
          (subst (λ (b : Option ℕ). IsLent (row_seen memory x (lies_in vs e)) b c.lend-row.result) (sym block)
          (lent_seen memory vs c.as_slice-in-Ok.result.now e x c.as_slice-in-Ok.ensures.value key c.lend-row.result (c.lend-row.ensures memory) (c.self.invariant.2 x (e.count, lies_in vs e) there))),
    )

pub returns-in-Err-clause-entry : goal.returns-in-Err-clause-entry
returns-in-Err-clause-entry c =
    let s = c.self.inside in
    let x = c.args.thing in
    let p = subst (λ es. IsGap thing_cmp (map amount_of es) x c.in-Err.field-0) c.as_slice.ensures.value c.in-Err.ensures in
    let none = none_at s.values.items s.held.items c.self.invariant.0 x c.in-Err.field-0 p in
    ap (λ t. m.get t.entries x) (sym c.self.view_is) ∙ entry_none (remembered s.memory) 0 0 (kept_in s.values.items s.held.items) x none
