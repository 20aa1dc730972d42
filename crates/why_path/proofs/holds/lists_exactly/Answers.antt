use Rattle.why_path.proofs.Answering.{not_so}
use Rattle.why_path.proofs.Listing.{lists_by, lists_left}
use Rattle.why_path.proofs.holds.lists_exactly.Goals as goal

pub returns-then-not-rise : goal.returns-then-not-rise
returns-then-not-rise c = ((λ e. cc), (λ lists. absurd (not_so c.rise.ensures c.if-not-rise.true lists.rising)))

pub returns-then-are_left : goal.returns-then-are_left
returns-then-are_left c = (
  λ e. lists_by c.args.orca.now.state.actors c.args.reasons.now (c.rise.ensures.0 c.if-not-rise.false)
      (c.are_left.ensures.0 c.if-are_left.true) (c.lists_left.ensures.0 e),
  λ lists. c.lists_left.ensures.1 (λ x. (lists.left x).1),
)

pub returns-else-are_left : goal.returns-else-are_left
returns-else-are_left c = (
  λ e. let failed = c.if-are_left.false in cc,
  λ lists. c.are_left.ensures.1 (lists_left c.args.orca.now.state.actors c.args.reasons.now lists),
)
