use Rattle.why_path.specs.Checks.{IsClosedAt}
use Rattle.why_path.proofs.Answering.{all_more, all_so, not_all, not_so}
use Rattle.why_path.proofs.holds.are_closed.Goals as goal

pub loop-line-preserved : goal.loop-line-preserved
loop-line-preserved c =
    all_more (IsClosedAt c.args.orca.now.state.actors c.args.reasons.now) c.args.reasons.now c.loop-line.line-index
    c.line-item.result c.loop-line-test.true c.line-item.is c.loop-line.invariant
    (c.is_closed_at.ensures.0 c.if-not-is_closed_at.false)

pub returns-then-not-is_closed_at : goal.returns-then-not-is_closed_at
returns-then-not-is_closed_at c =
    not_all (IsClosedAt c.args.orca.now.state.actors c.args.reasons.now) c.args.reasons.now c.loop-line.line-index
    c.line-item.result c.loop-line-test.true c.line-item.is (not_so c.is_closed_at.ensures c.if-not-is_closed_at.true)

pub returns : goal.returns
returns c =
    all_so (IsClosedAt c.args.orca.now.state.actors c.args.reasons.now) c.args.reasons.now c.loop-line.line-index
    c.loop-line-test.false c.loop-line.invariant
