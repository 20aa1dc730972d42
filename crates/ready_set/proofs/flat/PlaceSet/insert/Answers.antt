use Rattle.std.proofs.Common.{◌<◌, ◌/◌, ◌∙◌, Some, ◌∷◌, length, get_or, set, true, false, sym, ap, arith}
use Rattle.std.proofs.lemmas.List.{get_or_read}
use Rattle.std.proofs.lemmas.Option.{slice_get-get_or}
use Rattle.ready_set.specs.Levels.{places}
use Rattle.ready_set.proofs.Words.{length-places, places-set}
use Rattle.ready_set.proofs.Unchanged.{set_what_is_there}
use Rattle.ready_set.proofs.NextBits.{place-bit}
use Rattle.ready_set.proofs.flat.PlaceSet.insert.Goals as goal

pub word_at-word-requires : goal.word_at-word-requires
word_at-word-requires c =
    rw c.as_slice.ensures.value (omega (arith, length-places (c.self.inside.first ∷ c.self.inside.rest.items), ap length c.self.view_is))

pub returns-then-has_bit-clause-was : goal.returns-then-has_bit-clause-was
returns-then-has_bit-clause-was c =
    let words = c.self.inside.first ∷ c.self.inside.rest.items in
    let at = c.args.at in
    let read = rw c.as_slice.ensures.value at (sym (c.word_at-word.ensures c.word_at-word.result)) in
    let within : at / 64 < length words = omega (arith, length-places words, ap length c.self.view_is) in
    slice_get-get_or c.args.self.now at false c.requires
    ∙ ap Some (ap (λ ons. get_or ons at false) (sym c.self.view_is)
    ∙ place-bit words at _ (sym (get_or_read words (at / 64) _ within read 0)) ∙ sym c.has_bit.ensures ∙ c.if-has_bit.true)

pub returns-then-has_bit-clause-set : goal.returns-then-has_bit-clause-set
returns-then-has_bit-clause-set c = sym (set_what_is_there c.args.self.now c.args.at true (returns-then-has_bit-clause-was c))

pub write_word-requires : goal.write_word-requires
write_word-requires c = omega (arith, length-places (c.self.inside.first ∷ c.self.inside.rest.items), ap length c.self.view_is)

pub returns-clause-set : goal.returns-clause-set
returns-clause-set c =
    let words = c.self.inside.first ∷ c.self.inside.rest.items in
    let read = rw c.as_slice.ensures.value at (sym (c.word_at-word.ensures c.word_at-word.result)) in
    let within : c.args.at / 64 < length words = omega (arith, length-places words, ap length c.self.view_is) in
    ap places c.write_word.ensures.words
    ∙ places-set words c.args.at _ _ true (record { within = within; read = read; put = c.put_bit-word.ensures })
    ∙ ap (λ ons. set ons c.args.at true) c.self.view_is

pub returns-clause-was : goal.returns-clause-was
returns-clause-was c =
    let words = c.self.inside.first ∷ c.self.inside.rest.items in
    let at = c.args.at in
    let read = rw c.as_slice.ensures.value at (sym (c.word_at-word.ensures c.word_at-word.result)) in
    let within : at / 64 < length words = omega (arith, length-places words, ap length c.self.view_is) in
    slice_get-get_or c.args.self.now at false c.requires
    ∙ ap Some (ap (λ ons. get_or ons at false) (sym c.self.view_is)
    ∙ place-bit words at _ (sym (get_or_read words (at / 64) _ within read 0)) ∙ sym c.has_bit.ensures ∙ c.if-has_bit.false)
