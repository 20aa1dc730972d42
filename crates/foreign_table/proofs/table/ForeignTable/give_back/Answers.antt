use Rattle.std.proofs.Common.{◌≡◌, ◌+◌, ◌-◌, not, sym, ap, ◌∙◌, arith}
use Rattle.std.specs.Prelude.{vec_len, vec_capacity}
use Rattle.std.specs.FinMap as m
use Rattle.orca_names.specs.declared.names.Thing.{Thing}
use Rattle.row_store.specs.Memory.{remembered}
use Rattle.foreign_table.specs.Back.{given_up, goes_back, is_kept}
use Rattle.foreign_table.specs.Table.{count_values, kept_in, seen_by}
use Rattle.foreign_table.proofs.BackLemmas.{no_more, nothing_up}
use Rattle.foreign_table.proofs.Entries.{len_here, stay_entries}
use Rattle.foreign_table.proofs.Seen.{all_counted, given_seen, stay_recalled}
use Rattle.foreign_table.proofs.table.ForeignTable.give_back.Goals as goal

pub invariant_of-self : goal.invariant_of-self
invariant_of-self c =
    let s = c.self.inside in
    let new = c.keep_others.new in
    let stays = λ (x : Thing). not (goes_back c.args.back.now x) in
    let both = stay_entries s.values.items new.values.items s.held.items new.held.items stays c.self.invariant.0 c.keep_others.ensures.pairs in
    (both.0, c.keep_others.ensures.follow, stay_recalled (remembered s.memory) 0 0 0 0 (kept_in s.values.items s.held.items) _ stays both.1 c.self.invariant.2)

pub returns : goal.returns
returns c =
    let s = c.self.inside in
    let es = s.held.items in
    let vs = s.values.items in
    let new = c.keep_others.new in
    let memory = remembered s.memory in
    let stays = λ (x : Thing). not (goes_back c.args.back.now x) in
    let kept = kept_in vs es in
    let left = kept_in new.values.items new.held.items in
    let both = stay_entries vs new.values.items es new.held.items stays c.self.invariant.0 c.keep_others.ensures.pairs in
    let fewer = no_more vs new.values.items es new.held.items (is_kept c.args.back.now) c.self.invariant.1 c.keep_others.ensures.follow c.keep_others.ensures.pairs in
    let a = vec_capacity s.held - vec_len s.held in
    let b = vec_capacity s.values - vec_len s.values in
    let room : vec_capacity new.held - vec_len new.held ≡ a + (m.len kept - m.len left) =
    omega (arith, s.held.ok, new.held.ok, c.keep_others.ensures.capacity, fewer.0, len_here new.values.items new.held.items both.0, len_here vs es c.self.invariant.0) in
    let values : vec_capacity new.values - vec_len new.values ≡ b + (count_values (seen_by memory a b kept) - count_values (seen_by memory a b left)) =
    omega (arith, s.values.ok, new.values.ok, c.keep_others.ensures.values_capacity, fewer.1, all_counted memory a b new.values.items new.held.items both.0 c.keep_others.ensures.follow, all_counted memory a b vs es c.self.invariant.0 c.self.invariant.1) in
    given_seen memory a b _ _ kept left c.args.back.now both.1 room values ∙ ap (given_up c.args.back.now) c.self.view_is

pub returns-then-is_empty : goal.returns-then-is_empty
returns-then-is_empty c = nothing_up c.args.back.now c.args.self.now (sym c.is_empty.ensures ∙ c.if-is_empty.true)
