use Rattle.std.proofs.Common.{ℕ, length, map, Option, sym, ap, subst, ◌∙◌, arith}
use Rattle.orca_names.specs.declared.names.Thing.TheVariants.{Obj}
use Rattle.orca_names.specs.Names.{thing_cmp}
use Rattle.plain_list.specs.Rising.{IsAt, IsGap}
use Rattle.letter_kinds.specs.Holdings.{Row, entry_row}
use Rattle.row_store.specs.Lent.{IsLent}
use Rattle.row_store.specs.Memory.{remembered}
use Rattle.foreign_table.specs.Entry.{amount_of, lies_in}
use Rattle.foreign_table.specs.Table.{Table, kept_in, known_block, known_row}
use Rattle.foreign_table.proofs.Entries.{key_of, none_at, place_within, value_at}
use Rattle.foreign_table.proofs.Rows.{stands}
use Rattle.foreign_table.proofs.Seen.{entry_none, entry_seen, lent_seen, place_none, place_seen}
use Rattle.foreign_table.proofs.table.ForeignTable.row.Goals as goal

pub lend-requires-clause-within : goal.lend-requires-clause-within
lend-requires-clause-within c =
    let s = c.self.inside in
    let p = subst (λ es. IsAt thing_cmp (map amount_of es) (Obj c.args.n) c.in-Ok.i) c.as_slice.ensures.value c.in-Ok.ensures in
    let here = stands s.held.items s.values.items c.self.invariant.1 c.in-Ok.i c.index.result.now (place_within s.held.items (Obj c.args.n) c.in-Ok.i p) c.index.ensures in
    omega (arith, here.within, ap length c.as_slice-in-Ok.ensures.value)

pub lend-requires-clause-few : goal.lend-requires-clause-few
lend-requires-clause-few c =
    let s = c.self.inside in
    let p = subst (λ es. IsAt thing_cmp (map amount_of es) (Obj c.args.n) c.in-Ok.i) c.as_slice.ensures.value c.in-Ok.ensures in
    (stands s.held.items s.values.items c.self.invariant.1 c.in-Ok.i c.index.result.now (place_within s.held.items (Obj c.args.n) c.in-Ok.i p) c.index.ensures).few

pub returns-in-Ok : goal.returns-in-Ok
returns-in-Ok c =
    let s = c.self.inside in
    let vs = s.values.items in
    let es = s.held.items in
    let x = Obj c.args.n in
    let e = c.index.result.now in
    let memory = remembered s.memory in
    let p = subst (λ es. IsAt thing_cmp (map amount_of es) x c.in-Ok.i) c.as_slice.ensures.value c.in-Ok.ensures in
    let there = value_at vs es c.self.invariant.0 x c.in-Ok.i e p c.index.ensures in
    let key = key_of vs es c.self.invariant.0 x c.in-Ok.i e p c.index.ensures in
    let row = ap entry_row (entry_seen memory 0 0 (kept_in vs es) x (e.count, lies_in vs e) there) in
    let block = place_seen memory 0 0 (kept_in vs es) x (e.count, lies_in vs e) there in
    subst (λ (t : Table). IsLent (known_row t c.args.n) (known_block t c.args.n) c.lend.result) c.self.view_is
    (subst (λ (l : Option Row × Option ℕ). IsLent l.0 l.1 c.lend.result) (λ j. (sym row j, sym block j))
    (lent_seen memory vs c.as_slice-in-Ok.result.now e x c.as_slice-in-Ok.ensures.value key c.lend.result (c.lend.ensures memory) (c.self.invariant.2 x (e.count, lies_in vs e) there)))

pub returns-in-Err : goal.returns-in-Err
returns-in-Err c =
    let s = c.self.inside in
    let x = Obj c.args.n in
    let memory = remembered s.memory in
    let kept = kept_in s.values.items s.held.items in
    let p = subst (λ es. IsGap thing_cmp (map amount_of es) x c.in-Err.field-0) c.as_slice.ensures.value c.in-Err.ensures in
    let none = none_at s.values.items s.held.items c.self.invariant.0 x c.in-Err.field-0 p in (
      ap (λ (t : Table). known_row t c.args.n) (sym c.self.view_is) ∙ ap entry_row (entry_none memory 0 0 kept x none),
      ap (λ (t : Table). known_block t c.args.n) (sym c.self.view_is) ∙ place_none memory 0 0 kept x none,
    )
