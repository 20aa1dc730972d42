-- Words in a list: each place of it is known.
use Rattle.std.specs.Prelude.{ℕ, ◌+◌, List, [], ◌∷◌}
use Rattle.std.specs.FinMap as m
use Rattle.row_store.specs.Words.{Words}

-- its words, from a place on
abbrev pub known_in : ℕ → List ℕ → Words
known_in at [] = m.empty
known_in at (w ∷ ws) = m.insert (known_in (at + 1) ws) at w

-- as many places, from this one on
abbrev pub count_up : ℕ → List ℕ → List ℕ
count_up at [] = []
count_up at (w ∷ ws) = at ∷ count_up (at + 1) ws

-- its places
abbrev pub places_in : List ℕ → List ℕ
places_in ws = count_up 0 ws
