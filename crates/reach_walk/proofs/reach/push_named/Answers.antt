use Rattle.std.proofs.Common.{◌∙◌, sym, arith}
use Rattle.reach_walk.proofs.Named.{push-named, push-none}
use Rattle.reach_walk.proofs.reach.push_named.Goals as goal
use Rattle.reach_walk.proofs.reach.push_named.Goals.{in-Some+in_ok-push, in_default}

pub loop-value-preserved : goal.loop-value-preserved
loop-value-preserved c =
    let inside = c.loop-value-test.true in
    elim c.match-thing.branch [
      | in-Some+in_ok-push w ↦
          rw (w.things-is, w.in_ok-push.ensures.items) (push-named c.args.things.now.items c.loop-value.things.items c.args.values.now c.loop-value.value-index c.value-item.result w.in-Some.thing
          (omega arith) c.value-item.is c.loop-value.invariant (sym c.thing.ensures ∙ w.in-Some.is))
      | in_default w ↦
          rw (w.things-is) (push-none c.args.things.now.items c.loop-value.things.items c.args.values.now c.loop-value.value-index c.value-item.result
          (omega arith) c.value-item.is c.loop-value.invariant (sym c.thing.ensures ∙ w.in_default.is))
    ]
