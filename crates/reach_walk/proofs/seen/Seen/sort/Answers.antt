use Rattle.reach_walk.proofs.Strictly.{sorts_same, sorts_strictly}
use Rattle.reach_walk.proofs.seen.Seen.sort.Goals as goal

pub returns-clause-same : goal.returns-clause-same
returns-clause-same c = sorts_same c.sort.result c.args.self.now.things c.sort.new.self c.sort.ensures.same

pub returns-clause-rising : goal.returns-clause-rising
returns-clause-rising c = sorts_strictly c.sort.result c.args.self.now.things c.sort.new.self c.requires.once c.sort.ensures.same c.sort.ensures.sorted
