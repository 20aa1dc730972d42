use Rattle.std.proofs.Common.{◌+◌, ◌*◌, ◌≤◌, ◌++◌, length, replicate, false, ap, ◌∙◌, arith}
use Rattle.ready_set.specs.Levels.{places}
use Rattle.ready_set.proofs.Words.{length-places, places-push_zero}
use Rattle.ready_set.proofs.Summaries.{levels_longer}
use Rattle.ready_set.proofs.set.ReadySet.grow.Goals as goal

pub reserve_bit-requires-clause-few : goal.reserve_bit-requires-clause-few
reserve_bit-requires-clause-few c = omega (arith, length-places c.self.inside.words.items, ap length c.self.view_is, c.self.inside.words.ok.0)

pub invariant_of-self : goal.invariant_of-self
invariant_of-self c = c.in_err-reserve_bit.ensures.levels _ _ c.self.invariant

pub invariant_of-self-in_err-push : goal.invariant_of-self-in_err-push
invariant_of-self-in_err-push c = rw c.in_err-push.ensures.items (c.in_ok-reserve_bit.ensures.levels _ _ c.self.invariant)

pub invariant_of-self-2 : goal.invariant_of-self-2
invariant_of-self-2 c =
    let words = c.self.inside.words.items in
    let summary = c.reserve_bit.new.summary.items in
    let room : length words + 1 ≤ length summary * 64 = omega (arith, c.in_ok-reserve_bit.ensures.ok, c.self.inside.words.ok.0) in
    rw c.in_ok-push.ensures.items (levels_longer words summary c.self.inside.top room (c.in_ok-reserve_bit.ensures.levels _ _ c.self.invariant))

pub returns-clause-ok : goal.returns-clause-ok
returns-clause-ok c = ap places c.in_ok-push.ensures.items ∙ places-push_zero c.self.inside.words.items ∙ ap (λ ons. ons ++ replicate 64 false) c.self.view_is
