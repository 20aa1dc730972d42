use Rattle.std.proofs.Common.{sym, ◌∙◌, ap}
use Rattle.std.specs.Prelude.{◌==◌}
use Rattle.letter_kinds.specs.Detector.{all_acked}
use Rattle.detector_tokens.proofs.MarksLemmas.{acked_all}
use Rattle.detector_tokens.proofs.token.Token.is_acked.Goals as goal

pub returns : goal.returns
returns c =
    let i = c.self.invariant in
    ap (λ n. n == 0) i.count ∙ (sym (acked_all c.self.inside.members.items c.self.inside.acked.items i.long i.rising) ∙ ap all_acked c.self.view_is)
