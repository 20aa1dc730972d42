use Rattle.std.proofs.Common.{◌<◌, ◌/◌, ◌%◌, Some, length, get_or, eqb, false, sym, ap, ◌∙◌, arith}
use Rattle.std.specs.Int.{bit_at}
use Rattle.std.proofs.lemmas.List.{get_or_read}
use Rattle.std.proofs.lemmas.Option.{slice_get-get_or}
use Rattle.ready_set.proofs.Words.{length-places, get_or-places}
use Rattle.ready_set.proofs.set.ReadySet.contains.Goals as goal

pub index-requires : goal.index-requires
index-requires c = omega (arith, length-places c.self.inside.words.items, ap length c.self.view_is, c.self.inside.words.ok.0)

pub returns : goal.returns
returns c =
    let words = c.self.inside.words.items in
    let on = c.args.self.now in
    let within : c.args.a / 64 < length words = omega (arith, length-places words, ap length c.self.view_is) in
    slice_get-get_or on c.args.a false c.requires
    ∙ ap (λ b. Some b) (ap (λ ons. get_or ons c.args.a false) (sym c.self.view_is)
    ∙ get_or-places words c.args.a
    ∙ ap (λ w. eqb (bit_at w (c.args.a % 64)) 1) (sym (get_or_read words _ _ within c.index.ensures 0))
    ∙ sym c.has_bit.ensures)
