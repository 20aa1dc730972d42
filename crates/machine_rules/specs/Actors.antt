-- The actors by number, and the letters that wait for each.
use Rattle.std.specs.Prelude.{ℕ, ◌≡◌, List, [], ◌∷◌, ◌++◌, get_or, set, Option, Some, None, option_map}
use Rattle.std.specs.Option.{option_map_or}
use Rattle.letter_kinds.specs.Letters.{Letter, Dec}
use Rattle.letter_kinds.specs.Counting.{Amount}
use Rattle.machine_rules.specs.Cell.{Cell}

-- an actor that is present
pub record Seat : Type 0 where
  pub cell : Cell
  -- its letters, the first of which it takes next
  pub mail : List Letter

-- all actors ever made, by number; none where the actor is gone
abbrev pub Actors : Type 0
Actors = List (Option Seat)

abbrev pub seat : Cell → List Letter → Option Seat
seat cell mail = Some (record { cell = cell; mail = mail })

abbrev pub seat_at : Actors → ℕ → Option Seat
seat_at actors a = get_or actors a None

-- ---- of an actor that may be gone

-- its cell, where it is present
abbrev pub cell_of : Option Seat → Option Cell
cell_of actor = option_map (λ o. o.cell) actor

-- the letters that wait for it
abbrev pub letters_of : Option Seat → List Letter
letters_of actor = option_map_or (λ o. o.mail) actor []

abbrev pub cell_at : Actors → ℕ → Option Cell
cell_at actors a = cell_of (seat_at actors a)

abbrev pub mail_at : Actors → ℕ → List Letter
mail_at actors a = letters_of (seat_at actors a)

-- something holds of each actor that is present
abbrev pub Every : (ℕ → Cell → List Letter → Type 0) → Actors → Type 0
Every Q actors = (a : ℕ) (c : Cell) (mail : List Letter) → seat_at actors a ≡ seat c mail → Q a c mail

-- ---- posting

abbrev pub with_letter_more : Letter → Option Seat → Option Seat
with_letter_more letter None = None
with_letter_more letter (Some o) = Some (record o { mail = o.mail ++ letter ∷ [] })

-- a letter for an actor that is gone is lost
unfoldable pub push_letter : ℕ → Letter → Actors → Actors
push_letter to letter actors = set actors to (with_letter_more letter (seat_at actors to))

-- to each of these owners one Dec with its amounts
unfoldable pub push_decs : List (ℕ × List Amount) → Actors → Actors
push_decs [] actors = actors
push_decs (group ∷ groups) actors = push_decs groups (push_letter group.0 (Dec group.1) actors)
