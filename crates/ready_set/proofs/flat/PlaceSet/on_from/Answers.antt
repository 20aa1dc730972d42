use Rattle.std.proofs.Common.{◌+◌, ◌*◌, ◌/◌, ◌%◌, ◌≡◌, ◌<◌, inl, inr, true, false, ◌∷◌, [], length, sym, ap, ◌∙◌, get_or, arith}
use Rattle.std.proofs.lemmas.Bool.{cases_lt, true≢false}
use Rattle.std.proofs.lemmas.List.{get_or_read}
use Rattle.ready_set.specs.Levels.{places}
use Rattle.ready_set.proofs.Words.{length-places}
use Rattle.ready_set.proofs.NextBits.{in-word}
use Rattle.ready_set.proofs.NextOff.{on-in-word}
use Rattle.ready_set.proofs.flat.PlaceSet.on_from.Goals as goal

pub word_at-word-requires : goal.word_at-word-requires
word_at-word-requires c =
    rw c.as_slice.ensures.value (omega (arith, length-places (c.self.inside.first ∷ c.self.inside.rest.items), ap length c.self.view_is))

pub returns-clause-on : goal.returns-clause-on
returns-clause-on c = λ k after before.
    let words = c.self.inside.first ∷ c.self.inside.rest.items in
    let at = c.args.at in
    let read = rw c.as_slice.ensures.value at (sym (c.word_at-word.ensures c.word_at-word.result)) in
    let within : at / 64 < length words = omega (arith, length-places words, ap length c.self.view_is) in
    let its : get_or words (at / 64) 0 ≡ c.word_at-word.result = sym (get_or_read words (at / 64) _ within read 0) in
    let on = on-in-word words at (at % 64 + c.on_in_word.result) c.word_at-word.result its c.on_in_word.ensures.within c.on_in_word.ensures.on in
    ap (λ ons. get_or ons k false) (sym c.self.view_is) ∙ on k after (omega arith)

pub returns-clause-off : goal.returns-clause-off
returns-clause-off c = λ inner.
    let words = c.self.inside.first ∷ c.self.inside.rest.items in
    let at = c.args.at in
    let next = at % 64 + c.on_in_word.result in
    let read = rw c.as_slice.ensures.value at (sym (c.word_at-word.ensures c.word_at-word.result)) in
    let within : at / 64 < length words = omega (arith, length-places words, ap length c.self.view_is) in
    let its : get_or words (at / 64) 0 ≡ c.word_at-word.result = sym (get_or_read words (at / 64) _ within read 0) in
    let below : next < 64 = omega (arith, c.on_in_word.ensures.within) in
    let place : c.args.at + c.on_in_word.result ≡ 64 * (at / 64) + next = omega arith in
    ap (λ ons. get_or ons (c.args.at + c.on_in_word.result) false) (sym c.self.view_is)
    ∙ ap (λ k. get_or (places words) k false) place
    ∙ in-word words (at / 64) next c.word_at-word.result its below
    ∙ c.on_in_word.ensures.off below

pub returns-clause-some : goal.returns-clause-some
returns-clause-some c = λ on.
    let words = c.self.inside.first ∷ c.self.inside.rest.items in
    let at = c.args.at in
    let word = c.word_at-word.result in
    let more = c.on_in_word.result in
    let read = rw c.as_slice.ensures.value at (sym (c.word_at-word.ensures word)) in
    let within : at / 64 < length words = omega (arith, length-places words, ap length c.self.view_is) in
    let its : get_or words (at / 64) 0 ≡ word = sym (get_or_read words (at / 64) _ within read 0) in
    let place : 64 * (at / 64) + at % 64 ≡ at = omega arith in
    let bit : get_or (places (word ∷ [])) (at % 64) false ≡ true =
    sym (in-word words (at / 64) (at % 64) word its (omega arith)) ∙ ap (λ k. get_or (places words) k false) place ∙ ap (λ ons. get_or ons at false) c.self.view_is ∙ on in
    elim (cases_lt 0 more) as (λ _. 0 < more) [
      | inl some ↦ some
      | inr none ↦
          let here : at % 64 + more ≡ at % 64 = omega (arith, none) in
          absurd (true≢false (sym bit ∙ ap (λ k. get_or (places (word ∷ [])) k false) (sym here) ∙ c.on_in_word.ensures.off (omega (arith, none))))
    ]
