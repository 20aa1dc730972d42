use Rattle.foreign_table.proofs.Found.{entry_at, no_entry}
use Rattle.foreign_table.proofs.search.search.Goals as goal

pub returns-then-stands_at : goal.returns-then-stands_at
returns-then-stands_at c =
    let here = c.stands_at.ensures.there c.if-stands_at.true in
    entry_at c.args.held.now c.requires c.args.thing c.first_from-place.result here.0 here.1

pub returns : goal.returns
returns c = no_entry c.args.held.now c.requires c.args.thing c.first_from-place.result c.first_from-place.ensures.within c.first_from-place.ensures.below c.first_from-place.ensures.not_below
    c.if-stands_at.ensures.other
