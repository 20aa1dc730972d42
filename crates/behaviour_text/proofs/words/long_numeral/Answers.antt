use Rattle.std.proofs.Common.{◌∙◌}
use Rattle.std.proofs.lemmas.Str.{IsUtf8-from_ascii}
use Rattle.behaviour_text.proofs.Numerals.{numeral_is, digits_form, ascii_digits}
use Rattle.behaviour_text.proofs.words.long_numeral.Goals as goal

pub returns-in-Ok : goal.returns-in-Ok
returns-in-Ok c =
    let read = rw c.in-Ok.ensures.cases.0 at c.parse.ensures.value.0 in
    c.ok.ensures.value ∙ numeral_is c.args.word.now c.parse.result read c.requires

pub returns-in-Err : goal.returns-in-Err
returns-in-Err c =
    absurd (c.in-Err.ensures.cases.0 (IsUtf8-from_ascii _ (ascii_digits _ (digits_form c.args.word.now c.requires).0)))
