-- The token of a number is one of the open tokens.
use Rattle.std.proofs.Common.{◌≡◌, ℕ, ◌==◌, Some, eqb-true, Contains}
use Rattle.letter_kinds.specs.Detector.{Detector, Token, token_numbered}
use Rattle.detector_laws.proofs.Members.{Contains-from_find}

pub numbered_is_open : (d : Detector) (number : ℕ) (t : Token) → token_numbered number d ≡ Some t → Contains d.tokens t × (t.number ≡ number)
numbered_is_open d number t h =
    let two = Contains-from_find (λ (u : Token). u.number == number) d.tokens t h in (two.0, eqb-true t.number number two.1)
