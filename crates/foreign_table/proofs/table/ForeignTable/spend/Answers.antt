use Rattle.std.proofs.Common.{ℕ, ◌-◌, map, sym, refl, ap, subst, ◌∙◌, arith}
use Rattle.std.specs.Prelude.{is_some}
use Rattle.std.specs.FinMap as m
use Rattle.orca_names.specs.Names.{thing_cmp}
use Rattle.plain_list.specs.Rising.{IsAt}
use Rattle.row_store.specs.Memory.{remembered}
use Rattle.foreign_table.specs.declared.search.Entry.{Entry}
use Rattle.foreign_table.specs.Entry.{amount_of, lies_in}
use Rattle.foreign_table.specs.Table.{count_on, counted, kept_in, seen}
use Rattle.foreign_table.proofs.Entries.{place_within, value_at, written_held, written_kept}
use Rattle.foreign_table.proofs.Mapped.{some-mapped}
use Rattle.foreign_table.proofs.Rows.{same_follow}
use Rattle.foreign_table.proofs.Seen.{count_seen, counted_seen, put_recalled}
use Rattle.foreign_table.proofs.table.ForeignTable.spend.Goals as goal

pub place_there-i-requires-clause-there : goal.place_there-i-requires-clause-there
place_there-i-requires-clause-there c =
    let s = c.self.inside in
    let x = c.args.thing in (
      s.values.items,
      ap (λ es. is_some (m.get (kept_in s.values.items es) x)) c.as_slice.ensures.value
          ∙ sym (some-mapped (seen (remembered s.memory)) (kept_in s.values.items s.held.items) x) ∙ ap (λ t. is_some (m.get t.entries x)) c.self.view_is ∙ c.requires.there,
    )

pub spend-requires : goal.spend-requires
spend-requires c =
    let s = c.self.inside in
    let x = c.args.thing in
    let e = c.index_mut.result.now in
    let p = subst (λ es. IsAt thing_cmp (map amount_of es) x c.place_there-i.result) c.as_slice.ensures.value c.place_there-i.ensures in
    let there = value_at s.values.items s.held.items c.self.invariant.0 x c.place_there-i.result e p c.index_mut.ensures.value in
    let here = count_seen (remembered s.memory) 0 0 (kept_in s.values.items s.held.items) x (e.count, lies_in s.values.items e) there in
    let seen = ap (λ t. count_on t x) c.self.view_is in
    omega (arith, c.requires.enough, here, seen)

pub invariant_of-self : goal.invariant_of-self
invariant_of-self c =
    let s = c.self.inside in
    let es = s.held.items in
    let vs = s.values.items in
    let x = c.args.thing in
    let e = c.index_mut.result.now in
    let y : Entry = record e { count = c.spend.new.self } in
    let i = c.place_there-i.result in
    let h = c.self.invariant.0 in
    let memory = remembered s.memory in
    let p = subst (λ es. IsAt thing_cmp (map amount_of es) x i) c.as_slice.ensures.value c.place_there-i.ensures in
    let there = value_at vs es h x i e p c.index_mut.ensures.value in (
      written_held vs es x i e y h p c.index_mut.ensures.value refl,
      same_follow 0 _ es i e y (place_within es x i p) c.index_mut.ensures.value refl refl c.self.invariant.1,
      put_recalled memory memory x (λ q apart. refl) 0 0 0 0 (kept_in vs es) _ y.count (lies_in vs y) (written_kept vs es x i e y h p c.index_mut.ensures.value refl) c.self.invariant.2
          (c.self.invariant.2 x (e.count, lies_in vs e) there),
    )

pub returns : goal.returns
returns c =
    let s = c.self.inside in
    let es = s.held.items in
    let vs = s.values.items in
    let x = c.args.thing in
    let e = c.index_mut.result.now in
    let y : Entry = record e { count = c.spend.new.self } in
    let i = c.place_there-i.result in
    let h = c.self.invariant.0 in
    let change : ℕ → ℕ = λ count. count - 1 in
    let p = subst (λ es. IsAt thing_cmp (map amount_of es) x i) c.as_slice.ensures.value c.place_there-i.ensures in
    let there = value_at vs es h x i e p c.index_mut.ensures.value in
    let put = written_kept vs es x i e y h p c.index_mut.ensures.value refl ∙ ap (λ n. m.insert (kept_in vs es) x (n, lies_in vs e)) c.spend.ensures in
    counted_seen (remembered s.memory) change x _ _ (kept_in vs es) _ (e.count, lies_in vs e) there put
    ∙ ap (counted change x) c.self.view_is
