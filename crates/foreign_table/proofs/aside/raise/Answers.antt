use Rattle.std.proofs.Common.{◌+◌, ◌<◌, set, map, length, ap, ◌∙◌, refl, arith}
use Rattle.std.proofs.lemmas.List.{get_or_read, get_or-set_same, map-set, set-set}
use Rattle.foreign_table.specs.declared.search.Entry.{Entry}
use Rattle.foreign_table.specs.Entry.{len_of, lying_of, pair_of}
use Rattle.foreign_table.proofs.Rows.{same_follow}
use Rattle.foreign_table.proofs.aside.raise.Goals as goal

pub set_row-requires-clause-follow : goal.set_row-requires-clause-follow
set_row-requires-clause-follow c =
    same_follow 0 (length c.args.values.now.items) c.args.held.now.items c.args.i c.index_mut.result.now (record c.index_mut.result.now { count = c.gain.new.self })
    (omega (arith, c.args.held.now.ok.0)) c.index_mut.ensures.value refl refl c.requires.follow

pub returns-clause-pairs : goal.returns-clause-pairs
returns-clause-pairs c d =
    let es = c.args.held.now.items in
    let ps = map (pair_of c.args.values.now.items) es in
    let e = c.index_mut.result.now in
    let i = c.args.i in
    let row = c.args.row.now in
    let l : i < length es = omega (arith, c.args.held.now.ok.0) in
    let y : Entry = record e { count = c.gain.new.self } in
    let here = get_or_read es i e l c.index_mut.ensures.value d in
    c.set_row.ensures.pairs d
    ∙ ap (λ (z : Entry). set (map (pair_of c.args.values.now.items) (set es i y)) i (z.thing, (z.count, lying_of row c.args.block))) (get_or-set_same es i y d l)
    ∙ ap (λ qs. set qs i (y.thing, (y.count, lying_of row c.args.block))) (map-set (pair_of c.args.values.now.items) es i y)
    ∙ set-set ps i (pair_of c.args.values.now.items y) (y.thing, (y.count, lying_of row c.args.block))
    ∙ ap (λ n. set ps i (e.thing, (n, lying_of row c.args.block))) c.gain.ensures
    ∙ ap (λ (z : Entry). set ps i (z.thing, (z.count + c.args.by, lying_of row c.args.block))) here

pub returns-clause-values_len : goal.returns-clause-values_len
returns-clause-values_len c d =
    let es = c.args.held.now.items in
    let e = c.index_mut.result.now in
    let i = c.args.i in
    let l : i < length es = omega (arith, c.args.held.now.ok.0) in
    let y : Entry = record e { count = c.gain.new.self } in
    let same = ap len_of (get_or-set_same es i y d l) in
    let here = ap len_of (get_or_read es i e l c.index_mut.ensures.value d) in
    omega (arith, c.set_row.ensures.values_len d, same, here)
