use Rattle.std.proofs.Common.{arith}
use Rattle.ready_set.proofs.NextBits.{lowest-within, next-none, next-some}
use Rattle.ready_set.proofs.flat.next_bit.Goals as goal

pub returns-then-rest-eq0 : goal.returns-then-rest-eq0
returns-then-rest-eq0 c = next-none c.args.word c.args.from c.if-rest-eq0.true

pub returns-else-rest-eq0 : goal.returns-else-rest-eq0
returns-else-rest-eq0 c =
    next-some c.args.word c.args.from c.lowest_bit.result
    (lowest-within c.args.word c.args.from c.lowest_bit.result (omega arith) c.lowest_bit.ensures.on) c.lowest_bit.ensures
