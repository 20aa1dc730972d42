use Rattle.std.proofs.Common.{ℕ, ◌<◌, length, slice_get, Option, Some, refl, sym, ap, subst, ◌∙◌, arith}
use Rattle.std.specs.Prelude.{option_map}
use Rattle.std.specs.FinMap as m
use Rattle.std.proofs.lemmas.Option.{slice_get-map}
use Rattle.orca_names.proofs.ThingOrder.{thing_total}
use Rattle.plain_list.proofs.Rising.{value_at_place}
use Rattle.row_store.specs.Lent.{IsLent}
use Rattle.row_store.specs.Memory.{remembered}
use Rattle.foreign_table.specs.Entry.{lies_in, pair_of}
use Rattle.foreign_table.specs.Table.{Table, block_at, kept_in, row_seen, seen}
use Rattle.foreign_table.proofs.Entries.{len_here, entry_here}
use Rattle.foreign_table.proofs.Mapped.{entries-mapped, len-mapped}
use Rattle.foreign_table.proofs.Rows.{stands}
use Rattle.foreign_table.proofs.Seen.{lent_seen, place_seen}
use Rattle.foreign_table.proofs.table.ForeignTable.at.Goals as goal

pub index-entry-requires : goal.index-entry-requires
index-entry-requires c =
    let s = c.self.inside in
    let e = len_here s.values.items s.held.items c.self.invariant.0 in
    let f = ap (λ t. m.len t.entries) c.self.view_is in
    let same = len-mapped (seen (remembered s.memory)) (kept_in s.values.items s.held.items) in
    omega (arith, s.held.ok.0)

pub lend-row-requires-clause-within : goal.lend-row-requires-clause-within
lend-row-requires-clause-within c =
    let s = c.self.inside in
    let e = len_here s.values.items s.held.items c.self.invariant.0 in
    let f = ap (λ t. m.len t.entries) c.self.view_is in
    let same = len-mapped (seen (remembered s.memory)) (kept_in s.values.items s.held.items) in
    let l : c.args.i < length s.held.items = omega arith in
    let here = stands s.held.items s.values.items c.self.invariant.1 c.args.i c.index-entry.result.now l c.index-entry.ensures in
    omega (arith, here.within, ap length c.as_slice.ensures.value)

pub lend-row-requires-clause-few : goal.lend-row-requires-clause-few
lend-row-requires-clause-few c =
    let s = c.self.inside in
    let e = len_here s.values.items s.held.items c.self.invariant.0 in
    let f = ap (λ t. m.len t.entries) c.self.view_is in
    let same = len-mapped (seen (remembered s.memory)) (kept_in s.values.items s.held.items) in
    let l : c.args.i < length s.held.items = omega arith in
    (stands s.held.items s.values.items c.self.invariant.1 c.args.i c.index-entry.result.now l c.index-entry.ensures).few

pub returns-clause-entry : goal.returns-clause-entry
returns-clause-entry c =
    let s = c.self.inside in
    let vs = s.values.items in
    let es = s.held.items in
    let kept = kept_in vs es in
    let memory = remembered s.memory in
    let h = c.self.invariant.0 in
    let n = len_here vs es h in
    let f = ap (λ t. m.len t.entries) c.self.view_is in
    let same = len-mapped (seen memory) kept in
    let l : c.args.i < length es = omega arith in
    let e = c.index-entry.result.now in
    let x = e.thing in
    let here = entry_here vs es h c.args.i e l c.index-entry.ensures in
    let there = value_at_place thing_total kept c.args.i (pair_of vs e) here in
    let block = place_seen memory 0 0 kept x (e.count, lies_in vs e) there in (
      row_seen memory x (lies_in vs e),
      ap (λ t. slice_get (m.entries t.entries) c.args.i) (sym c.self.view_is)
          ∙ ap (λ es. slice_get es c.args.i) (entries-mapped (seen memory) kept)
          ∙ slice_get-map (λ p. (p.0, seen memory p.0 p.1)) (m.entries kept) c.args.i
          ∙ ap (option_map (λ p. (p.0, seen memory p.0 p.1))) here
          ∙ (λ j. Some (x, (sym c.get.ensures.count j, row_seen memory x (lies_in vs e)))),
      subst (λ (t : Table). IsLent (row_seen memory x (lies_in vs e)) (block_at t.blocks x) c.lend-row.result) c.self.view_is
          (subst (λ (b : Option ℕ). IsLent (row_seen memory x (lies_in vs e)) b c.lend-row.result) (sym block)
          (lent_seen memory vs c.as_slice.result.now e x c.as_slice.ensures.value refl c.lend-row.result (c.lend-row.ensures memory) (c.self.invariant.2 x (e.count, lies_in vs e) there))),
    )
