use Rattle.std.proofs.Common.{◌∙◌}
use Rattle.std.proofs.lemmas.Result.{IfOk-weaker}
use Rattle.load_maker.proofs.Texts.{joined_text}
use Rattle.load_maker.proofs.load.text_of.Goals as goal

pub returns : goal.returns
returns c =
    let written = c.format.ensures.ok in
    IfOk-weaker c.format.result _ _ (λ text is. is ∙ joined_text c.args.n) written
