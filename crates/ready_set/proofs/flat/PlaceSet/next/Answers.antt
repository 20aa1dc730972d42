use Rattle.std.proofs.Common.{◌/◌, ◌*◌, ◌+◌, ◌<◌, Some, ◌∷◌, length, subst, sym, ap, arith}
use Rattle.std.proofs.lemmas.List.{get_or_read}
use Rattle.ready_set.specs.Levels.{places}
use Rattle.ready_set.specs.Next.{AreOff, IsNext}
use Rattle.ready_set.proofs.Words.{length-places}
use Rattle.ready_set.proofs.NextBits.{next-here, next-later, off-append, on-within}
use Rattle.ready_set.proofs.flat.PlaceSet.next.Goals as goal

pub word_at-bits-requires : goal.word_at-bits-requires
word_at-bits-requires c =
    rw c.as_slice.ensures.value (omega (arith, length-places (c.self.inside.first ∷ c.self.inside.rest.items), ap length c.self.view_is))

pub overflow_add-result : goal.overflow_add-result
overflow_add-result c = omega (arith, on-within c.word_at-bits.result c.in-Some.k c.in-Some.ensures.1)

pub returns-in-Some : goal.returns-in-Some
returns-in-Some c =
    let words = c.self.inside.first ∷ c.self.inside.rest.items in
    let at = c.loop-at.at in
    let read = rw c.as_slice.ensures.value at (sym (c.word_at-bits.ensures c.word_at-bits.result)) in
    let within : at / 64 < length words = omega (arith, length-places words, ap length c.self.view_is) in
    let next : IsNext (places words) at (Some (64 * (at / 64) + c.in-Some.k)) =
    next-here words at c.in-Some.k c.word_at-bits.result (sym (get_or_read words (at / 64) _ within read 0)) c.in-Some.ensures in
    let here = subst (λ ons. IsNext ons at (Some (64 * (at / 64) + c.in-Some.k))) c.self.view_is next in
    (omega (arith, c.loop-at.invariant.after), here.1, off-append c.args.self.now c.args.from at _ c.loop-at.invariant.passed here.2)

pub overflow_mul-at : goal.overflow_mul-at
overflow_mul-at c = omega (arith, length-places (c.self.inside.first ∷ c.self.inside.rest.items), ap length c.self.view_is, c.self.invariant)

pub loop-at-preserved : goal.loop-at-preserved
loop-at-preserved c =
    let words = c.self.inside.first ∷ c.self.inside.rest.items in
    let at = c.loop-at.at in
    let read = rw c.as_slice.ensures.value at (sym (c.word_at-bits.ensures c.word_at-bits.result)) in
    let within : at / 64 < length words = omega (arith, length-places words, ap length c.self.view_is) in
    let later : AreOff (places words) at (64 * (at / 64 + 1)) = next-later words at c.word_at-bits.result (sym (get_or_read words (at / 64) _ within read 0)) c.in_default.ensures in
    record {
      after = omega (arith, c.loop-at.invariant.after);
      passed = off-append c.args.self.now c.args.from at _ c.loop-at.invariant.passed (subst (λ ons. AreOff ons at (64 * (at / 64 + 1))) c.self.view_is later);
    }
