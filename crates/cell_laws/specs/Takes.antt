-- After each run, each actor's counts allow the letter that it takes next.
use Rattle.std.specs.Prelude.{ℕ, List, [], ◌∷◌, ⊤}
use Rattle.letter_kinds.specs.Holdings.{Holdings}
use Rattle.letter_kinds.specs.Letters.{Letter}
use Rattle.actor_cell.specs.Takes.{CanTake}
use Rattle.cell_laws.specs.Runs.{AfterShortRuns}

-- they allow the first of these letters
abbrev pub CanTakeFirst : ℕ → List Letter → Holdings → Type 0
CanTakeFirst me [] h = ⊤
CanTakeFirst me (letter ∷ later) h = CanTake me letter h

abbrev pub RunsAllowTakes : Type 0
RunsAllowTakes =
    AfterShortRuns (λ program options t a c mail. CanTakeFirst a mail c.holdings)
