use Rattle.std.proofs.Common.{◌≡◌, ◌+◌, ◌<◌, cond, drop, take, map, length, ap, ◌∙◌, refl, arith}
use Rattle.std.specs.List.{insert}
use Rattle.std.proofs.lemmas.List.{length-take-le}
use Rattle.foreign_table.specs.declared.search.Entry.{Entry}
use Rattle.foreign_table.specs.Entry.{lying_of, pair_of}
use Rattle.foreign_table.proofs.Rows.{all_of, lengths, next, past, put_both, put_line, stands}
use Rattle.foreign_table.proofs.aside.put_between.Goals as goal

pub put_values-requires-clause-within : goal.put_values-requires-clause-within
put_values-requires-clause-within c =
    let s = stands c.args.held.now.items c.args.values.now.items c.requires.follow c.args.i c.index.result.now (omega (arith, c.args.held.now.ok.0)) c.index.ensures in
    omega (arith, s.within, c.args.values.now.ok.0)

pub overflow_add-first : goal.overflow_add-first
overflow_add-first c =
    let s = stands c.args.held.now.items c.args.values.now.items c.requires.follow c.args.i c.index.result.now (omega (arith, c.args.held.now.ok.0)) c.index.ensures in
    omega (arith, s.within, c.requires.few, c.args.values.now.ok, c.args.values.now.small)

pub line_up-requires-clause-fits : goal.line_up-requires-clause-fits
line_up-requires-clause-fits c =
    let es = c.args.held.now.items in
    let vs = c.args.values.now.items in
    let e = c.index.result.now in
    let i = c.args.i in
    let l : i < length es = omega (arith, c.args.held.now.ok.0) in
    let s = stands es vs c.requires.follow i e l c.index.ensures in
    let y : Entry = record { thing = c.args.thing.now; count = c.new-count.result; first = e.first; place = c.place_of_row-place.result } in
    let put = c.insert.ensures.items ∙ ap (λ b. cond b (insert es i y) es) (c.insert.ensures.succeeds c.requires.place) in
    let behind : lengths (drop (i + 1) c.insert.new.self.items) ≡ lengths (drop i es) =
    (λ j. lengths (drop (next i j) (put j))) ∙ ap lengths (past (take i es) (drop i es) y i (length-take-le i es (omega (arith, l)))) in
    omega (arith, behind, all_of e.first (length vs) (drop i es) s.here, c.requires.few, c.args.values.now.ok, c.args.values.now.small)

pub returns-clause-pairs : goal.returns-clause-pairs
returns-clause-pairs c =
    let es = c.args.held.now.items in
    let vs = c.args.values.now.items in
    let e = c.index.result.now in
    let i = c.args.i in
    let row = c.args.row.now in
    let l : i < length es = omega (arith, c.args.held.now.ok.0) in
    let s = stands es vs c.requires.follow i e l c.index.ensures in
    let y : Entry = record { thing = c.args.thing.now; count = c.new-count.result; first = e.first; place = c.place_of_row-place.result } in
    let put = c.insert.ensures.items ∙ ap (λ b. cond b (insert es i y) es) (c.insert.ensures.succeeds c.requires.place) in
    let line = c.line_up.ensures.items ∙ put_line es c.insert.new.self.items i (e.first + length row) y (omega (arith, l)) put in
    (λ j. map (pair_of (c.put_values.ensures.items j)) (line j)) ∙ (put_both es vs row i y e.first refl c.place_of_row-place.ensures.len c.requires.few s.before s.here).0
    ∙ (λ j. insert (map (pair_of vs) es) i (c.args.thing.now, (c.new-count.ensures j, lying_of row (c.place_of_row-place.ensures.block j))))

pub returns-clause-follow : goal.returns-clause-follow
returns-clause-follow c =
    let es = c.args.held.now.items in
    let vs = c.args.values.now.items in
    let e = c.index.result.now in
    let i = c.args.i in
    let row = c.args.row.now in
    let l : i < length es = omega (arith, c.args.held.now.ok.0) in
    let s = stands es vs c.requires.follow i e l c.index.ensures in
    let y : Entry = record { thing = c.args.thing.now; count = c.new-count.result; first = e.first; place = c.place_of_row-place.result } in
    let put = c.insert.ensures.items ∙ ap (λ b. cond b (insert es i y) es) (c.insert.ensures.succeeds c.requires.place) in
    let line = c.line_up.ensures.items ∙ put_line es c.insert.new.self.items i (e.first + length row) y (omega (arith, l)) put in
    rw line (rw c.put_values.ensures.items (put_both es vs row i y e.first refl c.place_of_row-place.ensures.len c.requires.few s.before s.here).1)
