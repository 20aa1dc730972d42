use Rattle.std.proofs.Common.{◌≡◌, suc, drop, subst, ◌+◌, ◌<◌, set, map, length, ap, sym, ◌∙◌, arith}
use Rattle.std.proofs.lemmas.List.{get_or_read}
use Rattle.foreign_table.specs.declared.search.Entry.{Entry}
use Rattle.foreign_table.specs.Entry.{FollowFrom, len_of, lying_of, pair_of}
use Rattle.foreign_table.proofs.Rows.{set_alone, set_both, stands}
use Rattle.foreign_table.proofs.aside.set_row.Goals as goal

pub write_values-requires : goal.write_values-requires
write_values-requires c =
    let l : c.args.i < length c.args.held.now.items = omega (arith, c.args.held.now.ok.0) in
    let s = stands c.args.held.now.items c.args.values.now.items c.requires.follow c.args.i c.index.result.now l c.index.ensures in
    let same = ap len_of (get_or_read c.args.held.now.items c.args.i c.index.result.now l c.index.ensures c.index-2.result.now) in
    let other = ap len_of c.index-2.ensures in
    omega (arith, s.within, c.args.values.now.ok.0, same, other, c.len.ensures.len, c.if-len-row.true)

pub returns-then-len-row-clause-pairs : goal.returns-then-len-row-clause-pairs
returns-then-len-row-clause-pairs c d =
    let es = c.args.held.now.items in
    let vs = c.args.values.now.items in
    let e = c.index.result.now in
    let i = c.args.i in
    let row = c.args.row.now in
    let l : i < length es = omega (arith, c.args.held.now.ok.0) in
    let s = stands es vs c.requires.follow i e l c.index.ensures in
    let here = get_or_read es i e l c.index.ensures in
    let third = here c.index_mut.result.now ∙ sym c.index_mut.ensures.value in
    let y : Entry = record c.index_mut.result.now { place = c.place_of_row.result } in
    let long : len_of e ≡ length row = omega (arith, ap len_of (here c.index-2.result.now ∙ sym c.index-2.ensures), c.len.ensures.len, c.if-len-row.true) in
    let behind = subst (λ n. FollowFrom (e.first + n) (drop (suc i) es) (length vs)) long s.behind in
    (λ j. map (pair_of (c.write_values.ensures.items j)) (set_alone es vs i y (e.first + length row) l behind j))
    ∙ (set_both es vs row i y e.first (ap (λ (z : Entry). z.first) (sym third)) c.place_of_row.ensures.len c.requires.few (length row) l s.before behind).0
    ∙ (λ j. set (map (pair_of vs) es) i (y.thing, (y.count, lying_of row (c.place_of_row.ensures.block j))))
    ∙ ap (λ (z : Entry). set (map (pair_of vs) es) i (z.thing, (z.count, lying_of row c.args.block))) (sym third ∙ here d)

pub returns-then-len-row-clause-follow : goal.returns-then-len-row-clause-follow
returns-then-len-row-clause-follow c =
    let es = c.args.held.now.items in
    let vs = c.args.values.now.items in
    let e = c.index.result.now in
    let i = c.args.i in
    let row = c.args.row.now in
    let l : i < length es = omega (arith, c.args.held.now.ok.0) in
    let s = stands es vs c.requires.follow i e l c.index.ensures in
    let here = get_or_read es i e l c.index.ensures in
    let third = here c.index_mut.result.now ∙ sym c.index_mut.ensures.value in
    let y : Entry = record c.index_mut.result.now { place = c.place_of_row.result } in
    let long : len_of e ≡ length row = omega (arith, ap len_of (here c.index-2.result.now ∙ sym c.index-2.ensures), c.len.ensures.len, c.if-len-row.true) in
    let behind = subst (λ n. FollowFrom (e.first + n) (drop (suc i) es) (length vs)) long s.behind in
    rw (set_alone es vs i y (e.first + length row) l behind) (rw c.write_values.ensures.items
    (set_both es vs row i y e.first (ap (λ (z : Entry). z.first) (sym third)) c.place_of_row.ensures.len c.requires.few (length row) l s.before behind).1)
