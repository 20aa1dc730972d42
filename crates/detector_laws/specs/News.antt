-- The detector forgets no closed set.
use Rattle.std.specs.Prelude.{◌≡◌, false, []}
use Rattle.letter_kinds.specs.Closed.{largest_closed}
use Rattle.letter_kinds.specs.Detector.{Detector, candidates}

-- where there is no news, nothing is closed among the candidates
abbrev pub NoNewsNoClosedSet : Detector → Type 0
NoNewsNoClosedSet d = d.news ≡ false → largest_closed (candidates d) ≡ []
