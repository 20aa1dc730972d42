use Rattle.std.proofs.Common.{refl, arith}
use Rattle.ready_set.proofs.NextBits.{next-here, next-later, on-within}
use Rattle.ready_set.proofs.levels.next_in_word.Goals as goal

pub overflow_add-result : goal.overflow_add-result
overflow_add-result c =
    let within = on-within _ c.in-Some.k c.in-Some.ensures.1 in
    let fits = c.ranges.from.fits in
    omega arith

pub returns-in-Some-clause-some : goal.returns-in-Some-clause-some
returns-in-Some-clause-some c = next-here c.args.words.now c.args.from c.in-Some.k _ refl c.in-Some.ensures

pub returns-in-None-clause-none : goal.returns-in-None-clause-none
returns-in-None-clause-none c = next-later c.args.words.now c.args.from _ refl c.in-None.ensures
