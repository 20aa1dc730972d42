use Rattle.std.proofs.Common.{arith}
use Rattle.reach_walk.proofs.Added.{Adds-more}
use Rattle.reach_walk.proofs.seen.Seen.see_all.Goals as goal

pub loop-thing-preserved : goal.loop-thing-preserved
loop-thing-preserved c = record {
  adds =
      Adds-more c.args.things.now c.loop-thing.thing-index c.thing-item.result c.args.self.now.things c.loop-thing.self.things c.see.new.self.things
      (omega arith) c.thing-item.is c.loop-thing.invariant.adds c.in_ok-see.ensures.adds;
  seen = c.in_ok-see.ensures.seen;
}
