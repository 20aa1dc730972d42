use Rattle.foreign_table.proofs.Owners.{spans}
use Rattle.foreign_table.proofs.span.span.Goals as goal

pub returns : goal.returns
returns c = spans c.args.held.now c.args.owner c.first_of-first.result c.end_from.result c.requires c.end_from.ensures.within.0 c.end_from.ensures.within.1
    c.first_of-first.ensures.below c.first_of-first.ensures.behind c.end_from.ensures.own c.end_from.ensures.stop
