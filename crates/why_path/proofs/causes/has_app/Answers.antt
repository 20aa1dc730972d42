use Rattle.std.proofs.Common.{◌≡◌, ◌<◌, ◌≤◌, ◌||◌, false, length, get_or, sym, ap, ◌∙◌, arith}
use Rattle.std.specs.List.{list_any}
use Rattle.std.proofs.lemmas.List.{take_all}
use Rattle.std.proofs.lemmas.List.Folds.{list_any_at, list_any_more}
use Rattle.std.proofs.lemmas.Option.{get_or_from_slice_get}
use Rattle.letter_kinds.specs.Letters.{as_letter}
use Rattle.why_path.specs.Reasons.{is_app}
use Rattle.why_path.proofs.causes.has_app.Goals as goal

pub loop-i-preserved : goal.loop-i-preserved
loop-i-preserved c =
    let ls = c.args.mail.now.letters in
    let i = c.loop-i.i in
    let l = as_letter c.at.result.now in
    let within : i < length ls = omega (arith, c.loop-i-test.true, c.len-i-end.ensures) in
    let is : get_or ls i l ≡ l = get_or_from_slice_get ls i l l c.at.ensures.letter in
    let none : is_app (get_or ls i l) ≡ false = ap is_app is ∙ sym c.is_app.ensures ∙ c.if-is_app.false in
    list_any_more is_app ls i l within ∙ (λ k. c.loop-i.invariant k || none k)

pub returns-then-is_app : goal.returns-then-is_app
returns-then-is_app c =
    let ls = c.args.mail.now.letters in
    let i = c.loop-i.i in
    let l = as_letter c.at.result.now in
    let within : i < length ls = omega (arith, c.loop-i-test.true, c.len-i-end.ensures) in
    let is : get_or ls i l ≡ l = get_or_from_slice_get ls i l l c.at.ensures.letter in
    sym (list_any_at is_app ls i l within (ap is_app is ∙ sym c.is_app.ensures ∙ c.if-is_app.true))

pub returns : goal.returns
returns c =
    let ls = c.args.mail.now.letters in
    let whole : length ls ≤ c.loop-i.i = omega (arith, c.loop-i-test.false, c.len-i-end.ensures) in
    sym (ap (list_any is_app) (sym (take_all c.loop-i.i ls whole)) ∙ c.loop-i.invariant)
