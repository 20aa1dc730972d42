use Rattle.std.proofs.Common.{◌≡◌, suc, ◌+◌, ◌<◌, ◌++◌, drop, take, set, map, length, ap, sym, ◌∙◌, refl, arith}
use Rattle.std.proofs.lemmas.List.{get_or_read, drop-set-lt}
use Rattle.foreign_table.specs.declared.search.Entry.{Entry}
use Rattle.foreign_table.specs.Entry.{len_of, lying_of, pair_of}
use Rattle.foreign_table.proofs.Rows.{all_of, lengths, next, set_both, set_line, stands, swapped}
use Rattle.foreign_table.proofs.aside.change_row.Goals as goal

pub take_values-requires : goal.take_values-requires
take_values-requires c =
    let l : c.args.i < length c.args.held.now.items = omega (arith, c.args.held.now.ok.0) in
    let s = stands c.args.held.now.items c.args.values.now.items c.requires.follow c.args.i c.index.result.now l c.index.ensures in
    let same = ap len_of (get_or_read c.args.held.now.items c.args.i c.index.result.now l c.index.ensures c.index-2.result.now) in
    let other = ap len_of c.index-2.ensures in
    omega (arith, s.within, c.args.values.now.ok.0, same, other, c.len.ensures.len)

pub put_values-requires-clause-within : goal.put_values-requires-clause-within
put_values-requires-clause-within c =
    let l : c.args.i < length c.args.held.now.items = omega (arith, c.args.held.now.ok.0) in
    let s = stands c.args.held.now.items c.args.values.now.items c.requires.follow c.args.i c.index.result.now l c.index.ensures in
    let same = ap len_of (get_or_read c.args.held.now.items c.args.i c.index.result.now l c.index.ensures c.index-2.result.now) in
    let other = ap len_of c.index-2.ensures in
    omega (arith, s.within, c.args.values.now.ok.0, c.take_values.ensures.len, same, other, c.len.ensures.len)

pub overflow_add-first : goal.overflow_add-first
overflow_add-first c =
    let l : c.args.i < length c.args.held.now.items = omega (arith, c.args.held.now.ok.0) in
    let s = stands c.args.held.now.items c.args.values.now.items c.requires.follow c.args.i c.index.result.now l c.index.ensures in
    omega (arith, s.within, c.requires.few, c.args.values.now.ok, c.args.values.now.small)

pub line_up-requires-clause-fits : goal.line_up-requires-clause-fits
line_up-requires-clause-fits c =
    let es = c.args.held.now.items in
    let vs = c.args.values.now.items in
    let e = c.index.result.now in
    let i = c.args.i in
    let l : i < length es = omega (arith, c.args.held.now.ok.0) in
    let s = stands es vs c.requires.follow i e l c.index.ensures in
    let y : Entry = record c.index_mut.result.now { place = c.place_of_row.result } in
    let behind : lengths (drop (i + 1) (set es i y)) ≡ lengths (drop (suc i) es) =
    ap lengths (drop-set-lt (i + 1) es i y (omega arith)) ∙ ap (λ n. lengths (drop n es)) (next i) in
    omega (arith, behind, all_of (e.first + len_of e) (length vs) (drop (suc i) es) s.behind, c.requires.few, c.args.values.now.ok, c.args.values.now.small)

pub returns-clause-pairs : goal.returns-clause-pairs
returns-clause-pairs c d =
    let es = c.args.held.now.items in
    let vs = c.args.values.now.items in
    let e = c.index.result.now in
    let i = c.args.i in
    let row = c.args.row.now in
    let l : i < length es = omega (arith, c.args.held.now.ok.0) in
    let s = stands es vs c.requires.follow i e l c.index.ensures in
    let here = get_or_read es i e l c.index.ensures in
    let other = here c.index-2.result.now ∙ sym c.index-2.ensures in
    let third = here c.index_mut.result.now ∙ sym c.index_mut.ensures.value in
    let y : Entry = record c.index_mut.result.now { place = c.place_of_row.result } in
    let values = swapped vs row e.first (len_of e) c.take_values.new.values.items c.put_values.new.values.items (omega (arith, s.within))
    (c.take_values.ensures.items ∙ ap (λ n. take e.first vs ++ drop (e.first + n) vs) (c.len.ensures.len ∙ ap len_of (sym other))) c.put_values.ensures.items in
    let line = c.line_up.ensures.items ∙ set_line es (set es i y) i (e.first + length row) y l refl in
    (λ j. map (pair_of (values j)) (line j))
    ∙ (set_both es vs row i y e.first (ap (λ (z : Entry). z.first) (sym third)) c.place_of_row.ensures.len c.requires.few (len_of e) l s.before s.behind).0
    ∙ (λ j. set (map (pair_of vs) es) i (y.thing, (y.count, lying_of row (c.place_of_row.ensures.block j))))
    ∙ ap (λ (z : Entry). set (map (pair_of vs) es) i (z.thing, (z.count, lying_of row c.args.block))) (sym third ∙ here d)

pub returns-clause-follow : goal.returns-clause-follow
returns-clause-follow c =
    let es = c.args.held.now.items in
    let vs = c.args.values.now.items in
    let e = c.index.result.now in
    let i = c.args.i in
    let row = c.args.row.now in
    let l : i < length es = omega (arith, c.args.held.now.ok.0) in
    let s = stands es vs c.requires.follow i e l c.index.ensures in
    let here = get_or_read es i e l c.index.ensures in
    let other = here c.index-2.result.now ∙ sym c.index-2.ensures in
    let third = here c.index_mut.result.now ∙ sym c.index_mut.ensures.value in
    let y : Entry = record c.index_mut.result.now { place = c.place_of_row.result } in
    let values = swapped vs row e.first (len_of e) c.take_values.new.values.items c.put_values.new.values.items (omega (arith, s.within))
    (c.take_values.ensures.items ∙ ap (λ n. take e.first vs ++ drop (e.first + n) vs) (c.len.ensures.len ∙ ap len_of (sym other))) c.put_values.ensures.items in
    let line = c.line_up.ensures.items ∙ set_line es (set es i y) i (e.first + length row) y l refl in
    rw line (rw values (set_both es vs row i y e.first (ap (λ (z : Entry). z.first) (sym third)) c.place_of_row.ensures.len c.requires.few (len_of e) l s.before s.behind).1)

pub returns-clause-values_len : goal.returns-clause-values_len
returns-clause-values_len c d =
    let l : c.args.i < length c.args.held.now.items = omega (arith, c.args.held.now.ok.0) in
    let here = get_or_read c.args.held.now.items c.args.i c.index-2.result.now l c.index-2.ensures d in
    omega (arith, ap len_of here, c.len.ensures.len, c.take_values.ensures.len, c.put_values.ensures.len)
