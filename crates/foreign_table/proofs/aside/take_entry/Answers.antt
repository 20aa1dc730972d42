use Rattle.std.proofs.Common.{◌≡◌, suc, ◌+◌, ◌<◌, ◌++◌, drop, take, map, length, ap, ◌∙◌, arith}
use Rattle.std.proofs.lemmas.List.{length-take-le, drop_at}
use Rattle.foreign_table.specs.Entry.{len_of, pair_of}
use Rattle.foreign_table.proofs.Rows.{all_of, lengths, less_both, less_line, stands}
use Rattle.foreign_table.proofs.aside.take_entry.Goals as goal

pub take_values-requires : goal.take_values-requires
take_values-requires c =
    let s = stands c.args.held.now.items c.args.values.now.items c.requires.follow c.args.i c.index.result.now (omega (arith, c.args.held.now.ok.0)) c.index.ensures in
    omega (arith, s.within, c.args.values.now.ok.0, c.len.ensures.len)

pub line_up-requires-clause-fits : goal.line_up-requires-clause-fits
line_up-requires-clause-fits c =
    let es = c.args.held.now.items in
    let vs = c.args.values.now.items in
    let e = c.index.result.now in
    let i = c.args.i in
    let l : i < length es = omega (arith, c.args.held.now.ok.0) in
    let s = stands es vs c.requires.follow i e l c.index.ensures in
    let behind : lengths (drop i c.remove.new.self.items) ≡ lengths (drop (suc i) es) =
    ap (λ xs. lengths (drop i xs)) c.remove.ensures.items ∙ ap lengths (drop_at (take i es) (drop (suc i) es) i (length-take-le i es (omega (arith, l)))) in
    omega (arith, behind, all_of (e.first + len_of e) (length vs) (drop (suc i) es) s.behind, c.args.values.now.ok, c.args.values.now.small)

pub returns-clause-pairs : goal.returns-clause-pairs
returns-clause-pairs c =
    let es = c.args.held.now.items in
    let vs = c.args.values.now.items in
    let e = c.index.result.now in
    let i = c.args.i in
    let l : i < length es = omega (arith, c.args.held.now.ok.0) in
    let s = stands es vs c.requires.follow i e l c.index.ensures in
    let line = c.line_up.ensures.items ∙ less_line es c.remove.new.self.items i e.first l c.remove.ensures.items in
    let values = c.take_values.ensures.items ∙ ap (λ n. take e.first vs ++ drop (e.first + n) vs) c.len.ensures.len in
    (λ j. map (pair_of (values j)) (line j)) ∙ (less_both es vs i e.first (len_of e) s.before s.behind).0

pub returns-clause-follow : goal.returns-clause-follow
returns-clause-follow c =
    let es = c.args.held.now.items in
    let vs = c.args.values.now.items in
    let e = c.index.result.now in
    let i = c.args.i in
    let l : i < length es = omega (arith, c.args.held.now.ok.0) in
    let s = stands es vs c.requires.follow i e l c.index.ensures in
    let line = c.line_up.ensures.items ∙ less_line es c.remove.new.self.items i e.first l c.remove.ensures.items in
    let values = c.take_values.ensures.items ∙ ap (λ n. take e.first vs ++ drop (e.first + n) vs) c.len.ensures.len in
    rw line (rw values (less_both es vs i e.first (len_of e) s.before s.behind).1)
