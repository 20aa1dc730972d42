use Rattle.std.proofs.Common.{◌+◌, ◌-◌, ◌≡◌, false, ◌∷◌, [], subst, get_or, arith}
use Rattle.ready_set.specs.Levels.{places}
use Rattle.ready_set.proofs.NextBits.{on-within}
use Rattle.ready_set.proofs.NextOff.{some-on, some-off, none-on}
use Rattle.ready_set.proofs.flat.on_in_word.Goals as goal

pub returns-in-Some-clause-within : goal.returns-in-Some-clause-within
returns-in-Some-clause-within c = omega (arith, c.in-Some.ensures.0, on-within _ c.in-Some.k c.in-Some.ensures.1)

pub returns-in-Some-clause-on : goal.returns-in-Some-clause-on
returns-in-Some-clause-on c = λ i after before. some-on c.args.word c.args.from c.in-Some.k c.ranges.word.fits c.in-Some.ensures i after (omega (arith, c.in-Some.ensures.0))

pub returns-in-Some-clause-off : goal.returns-in-Some-clause-off
returns-in-Some-clause-off c = λ _.
    let same : c.in-Some.k ≡ c.args.from + (c.in-Some.k - c.args.from) = omega (arith, c.in-Some.ensures.0) in
    subst (λ k. get_or (places (c.args.word ∷ [])) k false ≡ false) same (some-off c.args.word c.args.from c.in-Some.k c.ranges.word.fits c.in-Some.ensures)

pub returns-in-None-clause-on : goal.returns-in-None-clause-on
returns-in-None-clause-on c = λ i after before. none-on c.args.word c.args.from c.ranges.word.fits c.in-None.ensures i after (omega arith)
