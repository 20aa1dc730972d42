-- The letters that wait for an actor, as contracts see them.
use Rattle.std.specs.Prelude.{ℕ, ◌+◌, ◌≡◌, Option, Some, None, List, [], ◌∷◌, get_or}
use Rattle.std.specs.Global.{Box}
use Rattle.letter_kinds.specs.Letters.{Letter, as_letter}
use Rattle.letter_kinds.specs.Telling.{Brought, brought_in, nothing_brought}
use Rattle.letter_kinds.specs.declared.letter.Letter as code

-- the letters in the order in which they came, what each of them tells of rows, and for how many more
-- there is memory
pub record Mail : Type 0 where
  pub letters : List Letter
  pub brought : List Brought
  pub spare : ℕ

-- what the first of them brings; nothing where none waits
abbrev pub first_brought : Mail → Brought
first_brought mail = get_or mail.brought 0 nothing_brought

-- the letters behind the first, and the room there
abbrev pub behind : Option (Box Mail) → Mail
behind None = record { letters = []; brought = []; spare = 0 }
behind (Some rest) = rest.value

-- with the first letter, or the room for one
abbrev pub with_first : Option code.Letter → Mail → Mail
with_first None rest = record rest { spare = rest.spare + 1 }
with_first (Some letter) rest = record {
  letters = as_letter letter ∷ rest.letters;
  brought = brought_in letter ∷ rest.brought;
  spare = rest.spare;
}

-- where no letter is first, none is behind
abbrev pub HasFirst : Option code.Letter → Mail → Type 0
HasFirst None rest = (rest.letters ≡ []) × (rest.brought ≡ [])
HasFirst (Some _) rest = Unit {0}
