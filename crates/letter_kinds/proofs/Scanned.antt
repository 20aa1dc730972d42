-- A scan leaves no news.
use Rattle.std.proofs.Common.{◌≡◌, ℕ, false, List, [], ◌∷◌, refl}
use Rattle.letter_kinds.specs.Detector.{Detector, after_scan}

pub no_news : (d : Detector) (found : List ℕ) → (after_scan d found).news ≡ false
no_news d [] = refl
no_news d (a ∷ found) = refl
