use Rattle.std.proofs.Common.{◌+◌, [], ◌∷◌, map, take, refl, sym, ap, subst, ◌∙◌}
use Rattle.std.proofs.lemmas.List.Elements.{All-map, All-weaker}
use Rattle.std.proofs.lemmas.Simd.{map-map}
use Rattle.orca_names.specs.declared.tally.Sums.{Sums}
use Rattle.letter_kinds.specs.Letters.{as_letter}
use Rattle.count_ledger.specs.Lines.{Fits, HasRoomForMail, Rise, with_mail}
use Rattle.count_ledger.proofs.Adding.{map_itself, map_same, rise_kept}
use Rattle.count_ledger.proofs.Mailed.{next_fits, next_mail, no_mail}
use Rattle.count_ledger.proofs.letters.add_mail.Goals as goal

pub loop-i-init : goal.loop-i-init
loop-i-init c = sym (map_itself (with_mail c.args.to []) (no_mail c.args.to) c.args.sums.now)

pub add_letter-requires-clause-rising : goal.add_letter-requires-clause-rising
add_letter-requires-clause-rising c =
    let sums = c.args.sums.now in
    let f = with_mail c.args.to (take c.loop-i.i c.args.mail.now.letters) in
    subst Rise (sym c.loop-i.invariant) (rise_kept f (λ s. refl) sums c.requires.rising)

pub add_letter-requires-clause-room : goal.add_letter-requires-clause-room
add_letter-requires-clause-room c =
    let sums = c.args.sums.now in
    let to = c.args.to in
    let ls = c.args.mail.now.letters in
    let i = c.loop-i.i in
    let l = as_letter c.at.result.now in
    let f = with_mail to (take i ls) in
    let room = All-weaker (λ s. Fits (with_mail to ls s)) (λ s. Fits (with_mail to (l ∷ []) (f s)))
    (next_fits to ls i l c.at.ensures.letter) sums c.requires.room in
    subst (HasRoomForMail to (l ∷ [])) (sym c.loop-i.invariant)
    (All-map (λ (s : Sums). Fits (with_mail to (l ∷ []) s)) f sums room)

pub loop-i-preserved : goal.loop-i-preserved
loop-i-preserved c =
    let sums = c.args.sums.now in
    let to = c.args.to in
    let ls = c.args.mail.now.letters in
    let i = c.loop-i.i in
    let l = as_letter c.at.result.now in
    c.add_letter.ensures ∙ ap (map (with_mail to (l ∷ []))) c.loop-i.invariant
    ∙ map-map (with_mail to (l ∷ [])) (with_mail to (take i ls)) sums
    ∙ map_same (λ s. with_mail to (l ∷ []) (with_mail to (take i ls) s)) (with_mail to (take (i + 1) ls))
    (next_mail to ls i l c.at.ensures.letter) sums
