use Rattle.std.proofs.Common.{◌≡◌, ◌+◌, ◌++◌, ◌<◌, ◌≤◌, drop, take, set, length, get_or, ap, sym, ◌∙◌, arith, append-nil}
use Rattle.std.proofs.lemmas.List.{drop-set-lt, get_or-set_same, take_all, drop_all}
use Rattle.std.proofs.lemmas.List.Sums.{sum_by-drop_more}
use Rattle.foreign_table.specs.declared.search.Entry.{Entry}
use Rattle.foreign_table.specs.Entry.{len_of, lined_up}
use Rattle.foreign_table.proofs.Rows.{lengths, line_step}
use Rattle.foreign_table.proofs.aside.line_up.Goals as goal

pub overflow_add-first : goal.overflow_add-first
overflow_add-first c =
    let es = c.loop-i.held.items in
    let i = c.loop-i.i in
    let e = c.index_mut.result.now in
    let l : i < length es = omega (arith, c.loop-i.held.ok.0) in
    let again : c.len-first.result ≡ len_of e = c.len-first.ensures.len ∙ ap len_of (c.index.ensures ∙ get_or-set_same es i (record e { first = c.loop-i.first }) c.index.result.now l) in
    let here : len_of e ≡ len_of (get_or es i e) = ap len_of c.index_mut.ensures.value in
    let sum = sum_by-drop_more len_of es i e l in
    omega (arith, c.loop-i.invariant.fits, sum, again, here)

pub loop-i-preserved : goal.loop-i-preserved
loop-i-preserved c =
    let es = c.loop-i.held.items in
    let i = c.loop-i.i in
    let at = c.loop-i.first in
    let e = c.index_mut.result.now in
    let y : Entry = record e { first = at } in
    let l : i < length es = omega (arith, c.loop-i.held.ok.0) in
    let again : c.len-first.result ≡ len_of e = c.len-first.ensures.len ∙ ap len_of (c.index.ensures ∙ get_or-set_same es i y c.index.result.now l) in
    let here : len_of e ≡ len_of (get_or es i e) = ap len_of c.index_mut.ensures.value in
    let sum = sum_by-drop_more len_of es i e l in
    let behind : lengths (drop (i + 1) (set es i y)) ≡ lengths (drop (i + 1) es) = ap lengths (drop-set-lt (i + 1) es i y (omega arith)) in
    record {
      items = ap (λ n. take (i + 1) (set es i y) ++ lined_up (at + n) (drop (i + 1) (set es i y))) again ∙ line_step es i at e l c.index_mut.ensures.value ∙ c.loop-i.invariant.items;
      fits = omega (arith, c.loop-i.invariant.fits, sum, again, here, behind);
      long = c.loop-i.invariant.long;
      room = c.loop-i.invariant.room;
    }

pub returns-clause-items : goal.returns-clause-items
returns-clause-items c =
    let es = c.loop-i.held.items in
    let i = c.loop-i.i in
    let all : length es ≤ i = omega (arith, c.loop-i.held.ok.0) in
    sym ((λ j. take_all i es all j ++ lined_up c.loop-i.first (drop_all i es all j)) ∙ append-nil es) ∙ c.loop-i.invariant.items
