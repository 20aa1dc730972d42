use Rattle.std.proofs.Common.{◌<◌, ◌/◌, Some, ◌∷◌, length, get_or, false, sym, ap, ◌∙◌, arith}
use Rattle.std.proofs.lemmas.List.{get_or_read}
use Rattle.std.proofs.lemmas.Option.{slice_get-get_or}
use Rattle.ready_set.proofs.Words.{length-places}
use Rattle.ready_set.proofs.NextBits.{place-bit}
use Rattle.ready_set.proofs.flat.PlaceSet.contains.Goals as goal

pub word_at-word-requires : goal.word_at-word-requires
word_at-word-requires c =
    rw c.as_slice.ensures.value (omega (arith, length-places (c.self.inside.first ∷ c.self.inside.rest.items), ap length c.self.view_is))

pub returns : goal.returns
returns c =
    let words = c.self.inside.first ∷ c.self.inside.rest.items in
    let at = c.args.at in
    let read = rw c.as_slice.ensures.value at (sym (c.word_at-word.ensures c.word_at-word.result)) in
    let within : at / 64 < length words = omega (arith, length-places words, ap length c.self.view_is) in
    slice_get-get_or c.args.self.now at false c.requires
    ∙ ap Some (ap (λ ons. get_or ons at false) (sym c.self.view_is)
    ∙ place-bit words at _ (sym (get_or_read words (at / 64) _ within read 0)) ∙ sym c.has_bit.ensures)
