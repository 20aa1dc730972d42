use Rattle.orca_names.specs.declared.reason.Reason.{Reason}
use Rattle.machine_rules.specs.Left.{IsLeft}
use Rattle.why_path.proofs.Answering.{all_more, all_so, not_all, not_so}
use Rattle.why_path.proofs.holds.are_left.Goals as goal

pub loop-line-preserved : goal.loop-line-preserved
loop-line-preserved c =
    all_more (λ (r : Reason). IsLeft c.args.orca.now.state.actors r.thing) c.args.reasons.now c.loop-line.line-index
    c.line-item.result c.loop-line-test.true c.line-item.is c.loop-line.invariant
    (c.is_left.ensures.0 c.if-not-is_left.false)

pub returns-then-not-is_left : goal.returns-then-not-is_left
returns-then-not-is_left c =
    not_all (λ (r : Reason). IsLeft c.args.orca.now.state.actors r.thing) c.args.reasons.now c.loop-line.line-index
    c.line-item.result c.loop-line-test.true c.line-item.is (not_so c.is_left.ensures c.if-not-is_left.true)

pub returns : goal.returns
returns c =
    all_so (λ (r : Reason). IsLeft c.args.orca.now.state.actors r.thing) c.args.reasons.now c.loop-line.line-index
    c.loop-line-test.false c.loop-line.invariant
