use Rattle.std.proofs.Common.{◌+◌, ◌/◌, ◌∷◌, [], arith}
use Rattle.ready_set.proofs.Words.{length-places}
use Rattle.ready_set.proofs.NextWords.{next-below, next-below_none, positive, positive-within}
use Rattle.ready_set.proofs.levels.next_word.Goals as goal

pub returns-then-from-summary : goal.returns-then-from-summary
returns-then-from-summary c =
    let past = c.if-from-summary.true in
    λ k after end. absurd (omega (arith, length-places c.args.summary.now))

pub returns-then-from-eq63 : goal.returns-then-from-eq63
returns-then-from-eq63 c =
    let off = c.in_default.ensures.none in
    let last = c.if-from-eq63.true in
    let few = c.requires.few in
    λ k after end. off k after (omega (arith, length-places c.args.summary.now))

pub returns-in-None : goal.returns-in-None
returns-in-None c =
    let few = c.requires.few in
    next-below_none (c.args.top ∷ []) c.args.summary.now c.args.from (c.args.from / 64 + 1) c.requires.told (omega arith) c.in_default.ensures.none c.in-None.ensures

pub first_in_word-requires-clause-small : goal.first_in_word-requires-clause-small
first_in_word-requires-clause-small c =
    let within = positive-within c.args.summary.now c.in-Some-next_bit.word (positive (c.args.top ∷ []) c.args.summary.now (c.args.from / 64 + 1) c.in-Some-next_bit.word c.requires.told c.in-Some-next_bit.ensures) in
    let few = c.requires.few in
    omega arith

pub first_in_word-requires-clause-within : goal.first_in_word-requires-clause-within
first_in_word-requires-clause-within c =
    positive-within c.args.summary.now c.in-Some-next_bit.word (positive (c.args.top ∷ []) c.args.summary.now (c.args.from / 64 + 1) c.in-Some-next_bit.word c.requires.told c.in-Some-next_bit.ensures)

pub first_in_word-requires-clause-some : goal.first_in_word-requires-clause-some
first_in_word-requires-clause-some c =
    positive (c.args.top ∷ []) c.args.summary.now (c.args.from / 64 + 1) c.in-Some-next_bit.word c.requires.told c.in-Some-next_bit.ensures

pub returns-in-Some-next_bit : goal.returns-in-Some-next_bit
returns-in-Some-next_bit c =
    next-below (c.args.top ∷ []) c.args.summary.now c.args.from (c.args.from / 64 + 1) c.in-Some-next_bit.word c.first_in_word.result c.requires.told (omega arith)
    c.in_default.ensures.none c.in-Some-next_bit.ensures c.first_in_word.ensures
