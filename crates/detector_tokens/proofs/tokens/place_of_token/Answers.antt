use Rattle.std.proofs.Common.{rules, IfSome, IfNone, subst, sym, ◌≡◌, None}
use Rattle.std.specs.Prelude.{◌==◌}
use Rattle.std.specs.List.{find}
use Rattle.std.proofs.lemmas.List.Sorted.{answers_always}
use Rattle.letter_kinds.specs.Detector.{Token}
use Rattle.detector_tokens.specs.Open.{IsNumberedAt}
use Rattle.detector_tokens.proofs.OpenLemmas.{number_found, number_absent}
use Rattle.detector_tokens.proofs.tokens.place_of_token.Goals as goal

pub returns-clause-some : goal.returns-clause-some
returns-clause-some c =
    let facts = c.binary_search_by_key.ensures in
    let by_key = facts.position (λ t. t.number) (answers_always _ _ _ (λ f a r g called. search rules)) in
    subst (λ o. IfSome o (IsNumberedAt c.args.tokens.now c.args.number)) (sym c.ok.ensures.value)
    (number_found c.args.tokens.now c.args.number c.binary_search_by_key.result c.requires facts.bound by_key)

pub returns-clause-none : goal.returns-clause-none
returns-clause-none c =
    let facts = c.binary_search_by_key.ensures in
    let by_key = facts.position (λ t. t.number) (answers_always _ _ _ (λ f a r g called. search rules)) in
    subst (λ o. IfNone o (find (λ (t : Token). t.number == c.args.number) c.args.tokens.now ≡ None)) (sym c.ok.ensures.value)
    (number_absent c.args.tokens.now c.args.number c.binary_search_by_key.result c.requires facts.bound by_key)
