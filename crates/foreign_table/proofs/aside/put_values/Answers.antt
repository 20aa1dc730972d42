use Rattle.std.proofs.Common.{◌+◌, ◌<◌, cond, drop, take, length, ap, ◌∙◌, arith}
use Rattle.std.proofs.lemmas.List.{length-take-le}
use Rattle.std.specs.List.{insert}
use Rattle.foreign_table.proofs.Rows.{put_step}
use Rattle.foreign_table.proofs.aside.put_values.Goals as goal

pub loop-value-preserved : goal.loop-value-preserved
loop-value-preserved c =
    let vs = c.args.values.now.items in
    let front = take c.args.first vs in
    let back = drop c.args.first vs in
    let row = c.args.row.now in
    let k = c.loop-value.value-index in
    let x = c.value-item.result in
    let l : k < length row = omega arith in
    let done = c.insert.ensures.succeeds (omega arith) in
    let long = length-take-le c.args.first vs (omega (arith, c.args.values.now.ok.0)) in
    record {
      items = c.insert.ensures.items
          ∙ ap (λ b. cond b (insert c.loop-value.values.items c.loop-value.place x) c.loop-value.values.items) done
          ∙ ap (λ xs. insert xs c.loop-value.place x) c.loop-value.invariant.items
          ∙ put_step front row back c.args.first k c.loop-value.place x long l c.value-item.is c.loop-value.invariant.here;
      here = omega arith;
      long = c.insert.ensures.len ∙ ap (λ b. cond b (c.loop-value.values.len + 1) c.loop-value.values.len) done ∙ omega arith;
      room = omega (arith, c.insert.ensures.in_place (omega arith));
    }
