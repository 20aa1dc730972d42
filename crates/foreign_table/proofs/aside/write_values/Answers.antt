use Rattle.std.proofs.Common.{◌≡◌, ◌+◌, set, length, ◌∙◌, ap, arith}
use Rattle.std.proofs.lemmas.List.Edits.{paste_all, paste_more}
use lib.Seq.{paste}
use Rattle.foreign_table.proofs.aside.write_values.Goals as goal

pub loop-k-preserved : goal.loop-k-preserved
loop-k-preserved c =
    let vs = c.args.values.now.items in
    let row = c.args.row.now in
    let first = c.args.first in
    let k = c.loop-k.k in
    let x = c.index-row-k.result in
    record {
      items = ap (λ xs. set xs (first + k) x) c.loop-k.invariant.items ∙ ap (set (paste vs first row k) (first + k)) c.index-row-k.is
          ∙ paste_more vs first row k x (omega (arith, c.args.values.now.ok.0)) (omega arith);
      long = c.loop-k.invariant.long;
      room = c.loop-k.invariant.room;
    }

pub returns-clause-items : goal.returns-clause-items
returns-clause-items c =
    let vs = c.args.values.now.items in
    let row = c.args.row.now in
    let whole : c.loop-k.k ≡ length row = omega arith in
    c.loop-k.invariant.items ∙ ap (paste vs c.args.first row) whole ∙ paste_all vs c.args.first row (length row) (omega arith)
