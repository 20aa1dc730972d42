use Rattle.foreign_table.proofs.Found.{entry_at}
use Rattle.foreign_table.proofs.search.place_of.Goals as goal

pub returns-in-Some : goal.returns-in-Some
returns-in-Some c =
    let here = c.in-Some.ensures in
    entry_at c.args.held.now c.requires c.args.thing c.in-Some.place here.0 here.1
