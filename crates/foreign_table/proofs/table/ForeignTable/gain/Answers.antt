use Rattle.std.proofs.Common.{zero-add, ◌≡◌, ℕ, ◌+◌, ◌-◌, get_or, map, set, sym, ap, subst, ◌∙◌, arith}
use Rattle.std.specs.Prelude.{vec_len, vec_capacity}
use Rattle.std.specs.FinMap as m
use Rattle.orca_names.specs.Names.{thing_cmp}
use Rattle.plain_list.specs.Rising.{IsAt, IsGap}
use Rattle.row_store.specs.Memory.{remembered}
use Rattle.row_store.specs.Told.{Lying, told_block, told_row}
use Rattle.foreign_table.specs.Entry.{amount_of, lies_in, lying_of, pair_of}
use Rattle.foreign_table.specs.Table.{count_on, entered, kept_in, length_aside, seen_by, values_at}
use Rattle.foreign_table.proofs.Entries.{blank, found, itself, key_found, new_entries, none_at, place_within, set_entries}
use Rattle.foreign_table.proofs.Rows.{stands}
use Rattle.foreign_table.proofs.Seen.{count_seen, entered_absent, entered_present, entry_none, put_recalled, values_there}
use Rattle.foreign_table.proofs.Gained.{aside_told, row_told, told_room}
use Rattle.foreign_table.proofs.table.ForeignTable.gain.Goals as goal

pub raise-requires-clause-fits : goal.raise-requires-clause-fits
raise-requires-clause-fits c d =
    let s = c.self.inside in
    let es = s.held.items in
    let vs = s.values.items in
    let x = c.args.thing in
    let i = c.in-Ok.i in
    let p = subst (λ es. IsAt thing_cmp (map amount_of es) x i) c.as_slice.ensures.value c.in-Ok.ensures in
    let e = get_or es i d in
    let here = count_seen (remembered s.memory) 0 0 (kept_in vs es) x (e.count, lies_in vs e) (found vs es c.self.invariant.0 x i p d) in
    let seen = ap (λ t. count_on t x) c.self.view_is in
    omega (arith, c.requires.fits, here, seen)

pub invariant_of-self : goal.invariant_of-self
invariant_of-self c =
    let s = c.self.inside in
    let es = s.held.items in
    let vs = s.values.items in
    let x = c.args.thing in
    let i = c.in-Ok.i in
    let h = c.self.invariant.0 in
    let l : Lying = lying_of c.told_values-row.result.now c.block-block.result in
    let new = c.raise.new in
    let memory = remembered s.memory in
    let later = remembered c.remember.new.memory in
    let p = subst (λ es. IsAt thing_cmp (map amount_of es) x i) c.as_slice.ensures.value c.in-Ok.ensures in
    let e = get_or es i (blank x) in
    let v : ℕ × Lying = (e.count + c.args.by, l) in
    let pairs = c.raise.ensures.pairs (blank x) ∙ ap (λ k. set (map (pair_of vs) es) i (k, v)) (key_found vs es h x i p (blank x)) in
    let put = set_entries vs new.values.items es new.held.items h x i v p pairs in (
      put.0,
      c.raise.ensures.follow,
      put_recalled memory later x c.remember.ensures.others 0 0 0 0 (kept_in vs es) _ v.0 l put.1 c.self.invariant.2 (told_room (remembered c.args.from.now) later x c.args.told.now c.block-block.result c.block-block.ensures c.requires.told c.remember.ensures.here),
    )

pub put_entry-requires-clause-place : goal.put_entry-requires-clause-place
put_entry-requires-clause-place c =
    let s = c.self.inside in
    let x = c.args.thing in
    let p = subst (λ es. IsGap thing_cmp (map amount_of es) x c.in-Err.i) c.as_slice.ensures.value c.in-Err.ensures in
    let none = none_at s.values.items s.held.items c.self.invariant.0 x c.in-Err.i p in
    let room = c.requires.room (sym (ap (λ t. m.get t.entries x) c.self.view_is) ∙ entry_none (remembered s.memory) 0 0 (kept_in s.values.items s.held.items) x none) in
    let spare = ap (λ t. t.spare) c.self.view_is in
    omega (arith, s.held.ok)

pub invariant_of-self-in-Err : goal.invariant_of-self-in-Err
invariant_of-self-in-Err c =
    let s = c.self.inside in
    let x = c.args.thing in
    let new = c.put_entry.new in
    let l : Lying = lying_of c.told_values-row.result.now c.block-block.result in
    let memory = remembered s.memory in
    let later = remembered c.remember.new.memory in
    let p = subst (λ es. IsGap thing_cmp (map amount_of es) x c.in-Err.i) c.as_slice.ensures.value c.in-Err.ensures in
    let put = new_entries s.values.items new.values.items s.held.items new.held.items c.self.invariant.0 x c.in-Err.i (c.args.by, l) p c.put_entry.ensures.pairs in (
      put.0,
      c.put_entry.ensures.follow,
      put_recalled memory later x c.remember.ensures.others 0 0 0 0 (kept_in s.values.items s.held.items) _ c.args.by l put.1 c.self.invariant.2 (told_room (remembered c.args.from.now) later x c.args.told.now c.block-block.result c.block-block.ensures c.requires.told c.remember.ensures.here),
    )

pub returns-in-Ok : goal.returns-in-Ok
returns-in-Ok c =
    let s = c.self.inside in
    let es = s.held.items in
    let vs = s.values.items in
    let x = c.args.thing in
    let i = c.in-Ok.i in
    let h = c.self.invariant.0 in
    let row = c.told_values-row.result.now in
    let l : Lying = lying_of row c.block-block.result in
    let new = c.raise.new in
    let memory = remembered s.memory in
    let later = remembered c.remember.new.memory in
    let told = told_row (remembered c.args.from.now) x c.args.told.now in
    let block = told_block c.args.told.now in
    let change : ℕ → ℕ = λ count. count + c.args.by in
    let p = subst (λ es. IsAt thing_cmp (map amount_of es) x i) c.as_slice.ensures.value c.in-Ok.ensures in
    let e = get_or es i (blank x) in
    let v : ℕ × Lying = (e.count + c.args.by, l) in
    let pairs = c.raise.ensures.pairs (blank x) ∙ ap (λ k. set (map (pair_of vs) es) i (k, v)) (key_found vs es h x i p (blank x)) in
    let put = (set_entries vs new.values.items es new.held.items h x i v p pairs).1 in
    let a = vec_capacity s.held - vec_len s.held in
    let b = vec_capacity s.values - vec_len s.values in
    let there = found vs es h x i p (blank x) in
    let stood = values_there memory a b vs es h x e there (stands es vs c.self.invariant.1 i e (place_within es x i p) (itself vs es h x i p (blank x))).within in
    let aside = aside_told (remembered c.args.from.now) x c.args.told.now row c.told_values-row.ensures.row c.told_values-row.ensures.block in
    let spare : vec_capacity new.held - vec_len new.held ≡ a = omega (arith, c.raise.ensures.len, c.raise.ensures.capacity) in
    let values : vec_capacity new.values - vec_len new.values ≡ b + values_at (seen_by memory a b (kept_in vs es)) x - length_aside told block =
    omega (arith, c.raise.ensures.values_len (blank x), c.raise.ensures.values_capacity, stood, aside, s.values.ok, new.values.ok) in
    entered_present memory later x c.remember.ensures.others a b _ _ (kept_in vs es) _ change told block l
    (row_told (remembered c.args.from.now) later x c.args.told.now row c.block-block.result c.told_values-row.ensures.row c.block-block.ensures c.remember.ensures.here) c.block-block.ensures
    (e.count, lies_in vs e) there put spare values
    ∙ ap (entered change x told block) c.self.view_is

pub returns-in-Err : goal.returns-in-Err
returns-in-Err c =
    let s = c.self.inside in
    let es = s.held.items in
    let vs = s.values.items in
    let x = c.args.thing in
    let i = c.in-Err.i in
    let h = c.self.invariant.0 in
    let row = c.told_values-row.result.now in
    let l : Lying = lying_of row c.block-block.result in
    let new = c.put_entry.new in
    let memory = remembered s.memory in
    let later = remembered c.remember.new.memory in
    let told = told_row (remembered c.args.from.now) x c.args.told.now in
    let block = told_block c.args.told.now in
    let change : ℕ → ℕ = λ count. count + c.args.by in
    let p = subst (λ es. IsGap thing_cmp (map amount_of es) x i) c.as_slice.ensures.value c.in-Err.ensures in
    let none = none_at vs es h x i p in
    let put = (new_entries vs new.values.items es new.held.items h x i (c.args.by, l) p c.put_entry.ensures.pairs).1 ∙ ap (λ n. m.insert (kept_in vs es) x (n, l)) (sym (zero-add c.args.by)) in
    let a = vec_capacity s.held - vec_len s.held in
    let b = vec_capacity s.values - vec_len s.values in
    let aside = aside_told (remembered c.args.from.now) x c.args.told.now row c.told_values-row.ensures.row c.told_values-row.ensures.block in
    let spare : vec_capacity new.held - vec_len new.held ≡ a - 1 = omega (arith, c.put_entry.ensures.len, c.put_entry.ensures.capacity, s.held.ok, new.held.ok) in
    let values : vec_capacity new.values - vec_len new.values ≡ b - length_aside told block =
    omega (arith, c.put_entry.ensures.values_len, c.put_entry.ensures.values_capacity, aside, s.values.ok, new.values.ok) in
    entered_absent memory later x c.remember.ensures.others a b _ _ (kept_in vs es) _ change told block l
    (row_told (remembered c.args.from.now) later x c.args.told.now row c.block-block.result c.told_values-row.ensures.row c.block-block.ensures c.remember.ensures.here) c.block-block.ensures
    none put spare values
    ∙ ap (entered change x told block) c.self.view_is
