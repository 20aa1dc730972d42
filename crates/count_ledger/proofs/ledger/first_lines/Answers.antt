use Rattle.std.proofs.Common.{subst, sym}
use Rattle.machine_rules.specs.Left.{IsLeft}
use Rattle.count_ledger.proofs.ledger.first_lines.Goals as goal

pub first_line-requires-clause-left : goal.first_line-requires-clause-left
first_line-requires-clause-left c =
    let e = c.thing-item.result in
    subst (IsLeft c.args.orca.now.state.actors) (sym c.thing-item.is)
    (c.requires.left c.loop-thing.thing-index e c.loop-thing-test.true)
