use Rattle.why_path.proofs.Answering.{not_so}
use Rattle.why_path.proofs.holds.holds_up.Goals as goal

pub returns-then-not-lists_exactly : goal.returns-then-not-lists_exactly
returns-then-not-lists_exactly c =
    ((λ e. cc), (λ holds. absurd (not_so c.lists_exactly.ensures c.if-not-lists_exactly.true holds.lists)))

pub returns-then-lines_hold : goal.returns-then-lines_hold
returns-then-lines_hold c = (
  λ e. record {
    lists = c.lists_exactly.ensures.0 c.if-not-lists_exactly.false;
    lines = c.lines_hold.ensures.0 c.if-lines_hold.true;
    closed = c.are_closed.ensures.0 e;
  },
  λ holds. c.are_closed.ensures.1 holds.closed,
)

pub returns-else-lines_hold : goal.returns-else-lines_hold
returns-else-lines_hold c = (
  λ e. let failed = c.if-lines_hold.false in cc,
  λ holds. c.lines_hold.ensures.1 holds.lines,
)
