use Rattle.why_path.specs.Checks.{Holds}
use Rattle.why_path.proofs.Answering.{all_more, all_so, not_all, not_so}
use Rattle.why_path.proofs.holds.lines_hold.Goals as goal

pub loop-line-preserved : goal.loop-line-preserved
loop-line-preserved c =
    all_more (Holds c.args.orca.now.state.actors c.args.reasons.now) c.args.reasons.now c.loop-line.line-index
    c.line-item.result c.loop-line-test.true c.line-item.is c.loop-line.invariant
    (c.line_holds.ensures.0 c.if-not-line_holds.false)

pub returns-then-not-line_holds : goal.returns-then-not-line_holds
returns-then-not-line_holds c =
    not_all (Holds c.args.orca.now.state.actors c.args.reasons.now) c.args.reasons.now c.loop-line.line-index
    c.line-item.result c.loop-line-test.true c.line-item.is (not_so c.line_holds.ensures c.if-not-line_holds.true)

pub returns : goal.returns
returns c =
    all_so (Holds c.args.orca.now.state.actors c.args.reasons.now) c.args.reasons.now c.loop-line.line-index
    c.loop-line-test.false c.loop-line.invariant
