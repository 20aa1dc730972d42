use Rattle.ready_set.proofs.Words.{places-empty}
use Rattle.ready_set.proofs.set.ReadySet.new.Goals as goal

pub returns : goal.returns
returns c = places-empty c.new.result.items c.new.ensures.items
