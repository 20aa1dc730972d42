use Rattle.std.proofs.Common.{ℕ, zero-add, ◌≡◌, ◌+◌, ◌-◌, [], None, map, sym, refl, ap, subst, ◌∙◌, arith}
use Rattle.std.specs.Prelude.{vec_len, vec_capacity}
use Rattle.std.specs.FinMap as m
use Rattle.std.proofs.lemmas.Bool.{false≢true}
use Rattle.orca_names.specs.Names.{thing_cmp}
use Rattle.letter_kinds.specs.Holdings.{entry_row}
use Rattle.plain_list.specs.Rising.{IsAt, IsGap}
use Rattle.row_store.specs.Memory.{remembered}
use Rattle.foreign_table.specs.declared.search.Entry.{Entry}
use Rattle.foreign_table.specs.Entry.{amount_of, lies_in, lying_of}
use Rattle.foreign_table.specs.Table.{block_at, count_on, entered, kept_in, seen_by}
use Rattle.foreign_table.proofs.Entries.{new_entries, none_at, place_within, value_at, written_held, written_kept}
use Rattle.foreign_table.proofs.Rows.{same_follow}
use Rattle.foreign_table.proofs.Seen.{count_seen, counted_entered, entered_absent, entry_none, place_none, put_recalled}
use Rattle.foreign_table.proofs.table.ForeignTable.mint.Goals as goal

pub mint-requires : goal.mint-requires
mint-requires c =
    let s = c.self.inside in
    let x = c.args.thing in
    let e = c.index_mut.result.now in
    let p = subst (λ es. IsAt thing_cmp (map amount_of es) x c.in-Ok.i) c.as_slice.ensures.value c.in-Ok.ensures in
    let there = value_at s.values.items s.held.items c.self.invariant.0 x c.in-Ok.i e p c.index_mut.ensures.value in
    let here = count_seen (remembered s.memory) 0 0 (kept_in s.values.items s.held.items) x (e.count, lies_in s.values.items e) there in
    let seen = ap (λ t. count_on t x) c.self.view_is in
    omega (arith, c.requires.fits, here, seen)

pub invariant_of-self : goal.invariant_of-self
invariant_of-self c =
    let s = c.self.inside in
    let es = s.held.items in
    let vs = s.values.items in
    let x = c.args.thing in
    let e = c.index_mut.result.now in
    let y : Entry = record e { count = c.mint.new.self } in
    let i = c.in-Ok.i in
    let h = c.self.invariant.0 in
    let memory = remembered s.memory in
    let p = subst (λ es. IsAt thing_cmp (map amount_of es) x i) c.as_slice.ensures.value c.in-Ok.ensures in
    let there = value_at vs es h x i e p c.index_mut.ensures.value in (
      written_held vs es x i e y h p c.index_mut.ensures.value refl,
      same_follow 0 _ es i e y (place_within es x i p) c.index_mut.ensures.value refl refl c.self.invariant.1,
      put_recalled memory memory x (λ q apart. refl) 0 0 0 0 (kept_in vs es) _ y.count (lies_in vs y) (written_kept vs es x i e y h p c.index_mut.ensures.value refl) c.self.invariant.2
          (c.self.invariant.2 x (e.count, lies_in vs e) there),
    )

pub put_entry-requires-clause-place : goal.put_entry-requires-clause-place
put_entry-requires-clause-place c =
    let s = c.self.inside in
    let x = c.args.thing in
    let p = subst (λ es. IsGap thing_cmp (map amount_of es) x c.in-Err.i) c.as_slice.ensures.value c.in-Err.ensures in
    let none = none_at s.values.items s.held.items c.self.invariant.0 x c.in-Err.i p in
    let room = c.requires.room (sym (ap (λ t. m.get t.entries x) c.self.view_is) ∙ entry_none (remembered s.memory) 0 0 (kept_in s.values.items s.held.items) x none) in
    let spare = ap (λ t. t.spare) c.self.view_is in
    omega (arith, s.held.ok)

pub invariant_of-self-in-Err : goal.invariant_of-self-in-Err
invariant_of-self-in-Err c =
    let s = c.self.inside in
    let x = c.args.thing in
    let new = c.put_entry.new in
    let memory = remembered s.memory in
    let p = subst (λ es. IsGap thing_cmp (map amount_of es) x c.in-Err.i) c.as_slice.ensures.value c.in-Err.ensures in
    let put = new_entries s.values.items new.values.items s.held.items new.held.items c.self.invariant.0 x c.in-Err.i (c.args.by, lying_of [] None) p c.put_entry.ensures.pairs in (
      put.0,
      c.put_entry.ensures.follow,
      put_recalled memory memory x (λ q apart. refl) 0 0 0 0 (kept_in s.values.items s.held.items) _ c.args.by (lying_of [] None) put.1 c.self.invariant.2 (λ lies. absurd (false≢true lies)),
    )

pub returns-in-Ok : goal.returns-in-Ok
returns-in-Ok c =
    let s = c.self.inside in
    let es = s.held.items in
    let vs = s.values.items in
    let x = c.args.thing in
    let i = c.in-Ok.i in
    let h = c.self.invariant.0 in
    let e = c.index_mut.result.now in
    let y : Entry = record e { count = c.mint.new.self } in
    let change : ℕ → ℕ = λ count. count + c.args.by in
    let p = subst (λ es. IsAt thing_cmp (map amount_of es) x i) c.as_slice.ensures.value c.in-Ok.ensures in
    let there = value_at vs es h x i e p c.index_mut.ensures.value in
    let put = written_kept vs es x i e y h p c.index_mut.ensures.value refl ∙ ap (λ n. m.insert (kept_in vs es) x (n, lies_in vs e)) c.mint.ensures in
    counted_entered (remembered s.memory) change x _ _ (kept_in vs es) _ (e.count, lies_in vs e) there put
    ∙ ap (λ t. entered change x (entry_row (m.get t.entries x)) (block_at t.blocks x) t) c.self.view_is

pub returns-in-Err : goal.returns-in-Err
returns-in-Err c =
    let s = c.self.inside in
    let es = s.held.items in
    let vs = s.values.items in
    let x = c.args.thing in
    let i = c.in-Err.i in
    let h = c.self.invariant.0 in
    let new = c.put_entry.new in
    let memory = remembered s.memory in
    let change : ℕ → ℕ = λ count. count + c.args.by in
    let p = subst (λ es. IsGap thing_cmp (map amount_of es) x i) c.as_slice.ensures.value c.in-Err.ensures in
    let none = none_at vs es h x i p in
    let put = (new_entries vs new.values.items es new.held.items h x i (c.args.by, lying_of [] None) p c.put_entry.ensures.pairs).1 ∙ ap (λ n. m.insert (kept_in vs es) x (n, lying_of [] None)) (sym (zero-add c.args.by)) in
    let a = vec_capacity s.held - vec_len s.held in
    let b = vec_capacity s.values - vec_len s.values in
    let spare : vec_capacity new.held - vec_len new.held ≡ a - 1 = omega (arith, c.put_entry.ensures.len, c.put_entry.ensures.capacity, s.held.ok, new.held.ok) in
    let values : vec_capacity new.values - vec_len new.values ≡ b - 0 = omega (arith, c.put_entry.ensures.values_len, c.put_entry.ensures.values_capacity) in
    let t = seen_by memory a b (kept_in vs es) in
    entered_absent memory memory x (λ q apart. refl) a b _ _ (kept_in vs es) _ change None None (lying_of [] None) refl refl none put spare values
    ∙ (λ j. entered change x (entry_row (sym (entry_none memory a b (kept_in vs es) x none) j)) (sym (place_none memory a b (kept_in vs es) x none) j) t)
    ∙ ap (λ t. entered change x (entry_row (m.get t.entries x)) (block_at t.blocks x) t) c.self.view_is
