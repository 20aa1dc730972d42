use Rattle.std.proofs.Common.{sym, subst, ap, ◌∙◌, None, ◌≡◌}
use Rattle.std.specs.Prelude.{◌==◌}
use Rattle.std.specs.List.{find}
use Rattle.letter_kinds.specs.Detector.{Token}
use Rattle.detector_tokens.specs.Room.{TokensValue}
use Rattle.detector_tokens.proofs.Indexing.{none_numbered}
use Rattle.detector_tokens.proofs.tokens.Tokens.take.Goals as goal

pub returns-in-None-clause-others : goal.returns-in-None-clause-others
returns-in-None-clause-others c =
    sym (none_numbered c.args.self.now.list c.args.number (subst (λ ts. find (λ (t : Token). t.number == c.args.number) ts ≡ None)
    (c.deref.ensures.value ∙ ap (λ (v : TokensValue). v.list) c.self.view_is) c.in-None.ensures.none))
