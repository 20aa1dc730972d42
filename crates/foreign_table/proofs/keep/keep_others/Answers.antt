use Rattle.std.proofs.Common.{not, ◌+◌, ◌<◌, ◌≤◌, length, map, sym, refl, ap, subst, ◌∙◌, arith}
use Rattle.std.specs.List.{copy_within}
use Rattle.foreign_table.specs.Back.{is_kept}
use Rattle.foreign_table.specs.Entry.{pair_of}
use Rattle.foreign_table.proofs.Sweep.{SweptTo, SweptTo-start, SweptTo-no, SweptTo-yes, SweptTo-all, SweptTo-follow, row_within, row_behind}
use Rattle.foreign_table.proofs.keep.keep_others.Goals as goal

pub loop-i-init : goal.loop-i-init
loop-i-init c = record {
  swept = SweptTo-start (is_kept c.args.back.now) c.args.held.now.items c.args.values.now.items c.requires.follow;
  whole = c.len-count.ensures;
  room = refl;
  values_room = refl;
}

pub loop-i-preserved-then-goes : goal.loop-i-preserved-then-goes
loop-i-preserved-then-goes c =
    let before = c.loop-i.invariant in
    let inside : c.loop-i.i < length c.loop-i.held.items = omega (arith, c.loop-i-test.true, before.whole, before.swept.long, c.args.held.now.ok.0) in
    record {
      swept = SweptTo-no before.swept c.index-entry.result.now inside c.index-entry.ensures (ap not (sym c.goes.ensures ∙ c.if-goes.true));
      whole = before.whole;
      room = before.room;
      values_room = before.values_room;
    }

pub move_row-requires : goal.move_row-requires
move_row-requires c =
    let swept = c.loop-i.invariant.swept in
    let inside : c.loop-i.i < length c.loop-i.held.items = omega (arith, c.loop-i-test.true, c.loop-i.invariant.whole, swept.long, c.args.held.now.ok.0) in
    record {
      before = row_behind swept c.index-entry.result.now inside c.index-entry.ensures;
      within = omega (arith, row_within swept c.index-entry.result.now inside c.index-entry.ensures, c.len-len.ensures.len, c.loop-i.values.ok.0);
    }

pub overflow_add-kept_values : goal.overflow_add-kept_values
overflow_add-kept_values c =
    let swept = c.loop-i.invariant.swept in
    let inside : c.loop-i.i < length c.loop-i.held.items = omega (arith, c.loop-i-test.true, c.loop-i.invariant.whole, swept.long, c.args.held.now.ok.0) in
    let before = row_behind swept c.index-entry.result.now inside c.index-entry.ensures in
    let within = row_within swept c.index-entry.result.now inside c.index-entry.ensures in
    omega (arith, before, within, c.len-len.ensures.len, c.loop-i.values.ok, c.loop-i.values.small)

pub loop-i-preserved : goal.loop-i-preserved
loop-i-preserved c =
    let before = c.loop-i.invariant in
    let inside : c.loop-i.i < length c.loop-i.held.items = omega (arith, c.loop-i-test.true, before.whole, before.swept.long, c.args.held.now.ok.0) in
    let e = c.index-entry.result.now in
    record {
      swept = subst (λ n. SweptTo (is_kept c.args.back.now) c.args.held.now.items c.args.values.now.items c.move_entry.new.held.items c.move_row.new.values.items (c.loop-i.kept + 1) (c.loop-i.kept_values + n) (c.loop-i.i + 1)) (sym c.len-len.ensures.len)
          (SweptTo-yes before.swept e inside c.index-entry.ensures c.move_entry.new.held.items c.move_row.new.values.items c.move_entry.ensures.items
          (c.move_row.ensures.items ∙ ap (λ n. copy_within c.loop-i.values.items e.first (e.first + n) c.loop-i.kept_values) c.len-len.ensures.len) (ap not (sym c.goes.ensures ∙ c.if-goes.false)));
      whole = before.whole;
      room = c.move_entry.ensures.capacity ∙ before.room;
      values_room = c.move_row.ensures.capacity ∙ before.values_room;
    }

pub returns-clause-pairs : goal.returns-clause-pairs
returns-clause-pairs c =
    let all : length c.args.held.now.items ≤ c.loop-i.i = omega (arith, c.args.held.now.ok.0, c.loop-i.invariant.whole, c.loop-i-test.false) in
    (λ j. map (pair_of (c.truncate-2.ensures.items j)) (c.truncate.ensures.items j)) ∙ SweptTo-all c.loop-i.invariant.swept all

pub returns-clause-follow : goal.returns-clause-follow
returns-clause-follow c = rw (c.truncate.ensures.items, c.truncate-2.ensures.items) (SweptTo-follow c.loop-i.invariant.swept)
