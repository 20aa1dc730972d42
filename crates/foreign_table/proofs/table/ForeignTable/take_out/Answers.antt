use Rattle.std.proofs.Common.{◌≡◌, ◌+◌, ◌-◌, get_or, map, sym, ap, subst, ◌∙◌, arith}
use Rattle.std.specs.Prelude.{is_some, vec_len, vec_capacity}
use Rattle.std.specs.FinMap as m
use Rattle.orca_names.specs.Names.{thing_cmp}
use Rattle.plain_list.specs.Rising.{IsAt}
use Rattle.row_store.specs.Memory.{remembered}
use Rattle.foreign_table.specs.Entry.{amount_of, lies_in}
use Rattle.foreign_table.specs.Table.{count_on, kept_in, seen, seen_by, values_at, without}
use Rattle.foreign_table.proofs.Entries.{blank, found, itself, less_entries, place_within}
use Rattle.foreign_table.proofs.Mapped.{some-mapped}
use Rattle.foreign_table.proofs.Rows.{stands}
use Rattle.foreign_table.proofs.Seen.{count_seen, less_recalled, values_there, without_seen}
use Rattle.foreign_table.proofs.table.ForeignTable.take_out.Goals as goal

pub place_there-i-requires-clause-there : goal.place_there-i-requires-clause-there
place_there-i-requires-clause-there c =
    let s = c.self.inside in
    let x = c.args.thing in (
      s.values.items,
      ap (λ es. is_some (m.get (kept_in s.values.items es) x)) c.as_slice.ensures.value
          ∙ sym (some-mapped (seen (remembered s.memory)) (kept_in s.values.items s.held.items) x) ∙ ap (λ t. is_some (m.get t.entries x)) c.self.view_is ∙ c.requires.there,
    )

pub invariant_of-self : goal.invariant_of-self
invariant_of-self c =
    let s = c.self.inside in
    let x = c.args.thing in
    let i = c.place_there-i.result in
    let new = c.take_entry.new in
    let p = subst (λ es. IsAt thing_cmp (map amount_of es) x i) c.as_slice.ensures.value c.place_there-i.ensures in
    let less = less_entries s.values.items new.values.items s.held.items new.held.items c.self.invariant.0 x i p c.take_entry.ensures.pairs in
    (less.0, c.take_entry.ensures.follow, less_recalled (remembered s.memory) 0 0 0 0 (kept_in s.values.items s.held.items) _ x less.1 c.self.invariant.2)

pub returns-clause-count : goal.returns-clause-count
returns-clause-count c =
    let s = c.self.inside in
    let x = c.args.thing in
    let i = c.place_there-i.result in
    let h = c.self.invariant.0 in
    let p = subst (λ es. IsAt thing_cmp (map amount_of es) x i) c.as_slice.ensures.value c.place_there-i.ensures in
    let e = get_or s.held.items i (blank x) in
    c.take_entry.ensures.count (blank x)
    ∙ sym (count_seen (remembered s.memory) 0 0 (kept_in s.values.items s.held.items) x (e.count, lies_in s.values.items e) (found s.values.items s.held.items h x i p (blank x)))
    ∙ ap (λ t. count_on t x) c.self.view_is

pub returns-clause-gone : goal.returns-clause-gone
returns-clause-gone c =
    let s = c.self.inside in
    let es = s.held.items in
    let vs = s.values.items in
    let x = c.args.thing in
    let i = c.place_there-i.result in
    let h = c.self.invariant.0 in
    let new = c.take_entry.new in
    let memory = remembered s.memory in
    let p = subst (λ es. IsAt thing_cmp (map amount_of es) x i) c.as_slice.ensures.value c.place_there-i.ensures in
    let e = get_or es i (blank x) in
    let a = vec_capacity s.held - vec_len s.held in
    let b = vec_capacity s.values - vec_len s.values in
    let there = found vs es h x i p (blank x) in
    let stood = values_there memory a b vs es h x e there (stands es vs c.self.invariant.1 i e (place_within es x i p) (itself vs es h x i p (blank x))).within in
    let spare : vec_capacity new.held - vec_len new.held ≡ a + 1 = omega (arith, c.take_entry.ensures.len, c.take_entry.ensures.capacity, s.held.ok) in
    let values : vec_capacity new.values - vec_len new.values ≡ b + values_at (seen_by memory a b (kept_in vs es)) x =
    omega (arith, c.take_entry.ensures.values_len (blank x), c.take_entry.ensures.values_capacity, stood, s.values.ok) in
    without_seen memory a b _ _ (kept_in vs es) _ x (less_entries vs new.values.items es new.held.items h x i p c.take_entry.ensures.pairs).1 spare values
    ∙ ap (without x) c.self.view_is
