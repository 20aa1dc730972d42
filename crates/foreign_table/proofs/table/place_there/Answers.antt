use Rattle.std.proofs.lemmas.Bool.{false≢true}
use Rattle.foreign_table.proofs.Entries.{none_at}
use Rattle.foreign_table.proofs.table.place_there.Goals as goal

pub unreachable-requires : goal.unreachable-requires
unreachable-requires c =
    let there = c.requires.there in
    let e = none_at there.0 c.args.held.now c.requires.own c.args.thing c.in-Err.field-0 c.in-Err.ensures in
    false≢true (rw e at there.1)
