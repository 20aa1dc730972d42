use Rattle.std.proofs.Common.{◌<◌, ◌++◌, ◌∷◌, [], false, Some, length, get_or, ap, refl, sym, ◌∙◌, arith, string_bytes}
use Rattle.std.specs.Prelude.{codes}
use Rattle.std.specs.Fmt.{decimal}
use Rattle.std.proofs.lemmas.Option.{get_or_from_slice_get, slice_get-get_or}
use Rattle.behaviour_text.specs.Text.{line_of}
use Rattle.detector_tokens.specs.Marks.{picked}
use Rattle.picture_rules.specs.Blocked.{member_line}
use Rattle.picture_rules.specs.Words.{bit_word}
use Rattle.picture_lines.proofs.Marks.{picked-at}
use Rattle.picture_lines.proofs.Steps.{next_line}
use Rattle.picture_lines.proofs.blocked.push_members.Goals as goal

pub loop-i-preserved : goal.loop-i-preserved
loop-i-preserved c =
    let members = c.args.members.now in
    let acked = c.args.acked.now in
    let i = c.loop-i.i in
    let a = c.index-members-i.result in
    let here : i < length members = omega (arith, c.loop-i-test.true) in
    let there = slice_get-get_or members i a here ∙ ap Some (sym c.index-members-i.is) in
    let marked = picked-at members acked i a (get_or acked i false) c.requires.beside c.requires.rising here (get_or_from_slice_get members i a 0 there) refl in
    next_line (member_line (picked members acked)) members i a _ _ _ there c.loop-i.invariant
    (c.in_ok-push_member.ensures
    ∙ ap (λ b. string_bytes c.loop-i.out ++ line_of (codes "member" ∷ decimal a ∷ bit_word b ∷ [])) (sym marked))
