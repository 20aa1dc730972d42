use Rattle.std.proofs.Common.{◌<◌, ◌∷◌, [], Some, length, ap, sym, ◌∙◌, arith, string_bytes}
use Rattle.std.specs.Prelude.{codes}
use Rattle.std.specs.Fmt.{decimal}
use Rattle.std.proofs.lemmas.Option.{slice_get-get_or}
use Rattle.picture_rules.specs.Parts.{part_change}
use Rattle.picture_rules.specs.Words.{text_of_lines}
use Rattle.picture_lines.proofs.Steps.{next_lines}
use Rattle.book_picture.proofs.Lists.{text_at}
use Rattle.book_picture.proofs.changes.push_report_changes.Goals as goal

pub loop-i-preserved : goal.loop-i-preserved
loop-i-preserved c b a before after =
    let actors = c.args.actors.now in
    let i = c.loop-i.i in
    let actor = c.index-actors-i.result in
    let here : i < length actors = omega (arith, c.loop-i-test.true) in
    let at = slice_get-get_or actors i actor here ∙ ap Some (sym c.index-actors-i.is) in
    let old : i < length c.args.before.now = omega (arith, here, c.requires.before) in
    let new : i < length c.args.after.now = omega (arith, here, c.requires.after) in
    next_lines (λ x. part_change (codes "withdrawn" ∷ decimal x ∷ []) (b x) (a x)) actors i actor _ _ _ at (c.loop-i.invariant b a before after)
    (c.in_ok-push_report_change.ensures (b actor) (a actor)
    (c.deref.ensures ∙ text_at string_bytes (λ x. text_of_lines (b x)) c.args.before.now actors i actor c.index-before-i.result before at old c.index-before-i.is)
    (c.deref-in-loop-i.ensures ∙ text_at string_bytes (λ x. text_of_lines (a x)) c.args.after.now actors i actor c.index-after-i.result after at new c.index-after-i.is))
