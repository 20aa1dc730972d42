-- The actors on ledgers, in their places: posting there is posting in the machine.
use Rattle.std.proofs.Common.{◌≡◌, ℕ, zero, suc, List, [], ◌∷◌, ◌++◌, map, set, get_or, Option, Some, None, refl, ap, sym, ◌∙◌}
use Rattle.std.proofs.lemmas.List.{map-set}
use Rattle.letter_kinds.specs.Counting.{Amount}
use Rattle.letter_kinds.specs.Letters.{Letter, Dec, Confirm}
use Rattle.machine_examples.proofs.Brought.{Brought, cell_with}
use Rattle.machine_examples.proofs.Ledgers.{Ledger}
use Rattle.machine_rules.specs.Actors.{Actors, Seat, push_decs, push_letter, seat, seat_at, with_letter_more}
use Rattle.machine_rules.specs.Cell.{Cell}
use Rattle.machine_rules.specs.Detect.{ask_all}

-- an actor that is present; its holdings stand in the ledger and the rows that letters brought beside it,
-- and those of the cell count for nothing
pub record Place : Type 0 where
  pub cell : Cell
  pub ledger : Ledger
  pub known : Brought
  pub mail : List Letter

-- all actors ever made, by number; none where the actor is gone
abbrev pub Places : Type 0
Places = List (Option Place)

-- the cell with the holdings of the ledger and the rows beside it
abbrev pub cell_told : Place → Cell
cell_told o = cell_with o.cell o.ledger o.known

-- the seat of a place
abbrev pub seat_told : Option Place → Option Seat
seat_told None = None
seat_told (Some o) = seat (cell_told o) o.mail

-- the actors in their places
abbrev pub seats_told : Places → Actors
seats_told places = map seat_told places

-- a present actor
abbrev pub place : Cell → Ledger → Brought → List Letter → Option Place
place cell ledger known mail = Some (record { cell = cell; ledger = ledger; known = known; mail = mail })

-- the place of a number
abbrev pub place_at : Places → ℕ → Option Place
place_at places a = get_or places a None

pub seat_at-told : (places : Places) (a : ℕ) → seat_at (seats_told places) a ≡ seat_told (place_at places a)
seat_at-told [] a = refl
seat_at-told (o ∷ places) zero = refl
seat_at-told (o ∷ places) (suc a) = seat_at-told places a

pub set-told : (places : Places) (a : ℕ) (o : Option Seat) (p : Option Place) → o ≡ seat_told p → set (seats_told places) a o ≡ seats_told (set places a p)
set-told places a o p e = ap (set (seats_told places) a) e ∙ sym (map-set seat_told places a p)

-- ---- posting

-- one letter more
abbrev pub mail_more : Letter → Option Place → Option Place
mail_more letter None = None
mail_more letter (Some o) = Some (record o { mail = o.mail ++ letter ∷ [] })

pub mail-told : (letter : Letter) (o : Option Place) → with_letter_more letter (seat_told o) ≡ seat_told (mail_more letter o)
mail-told letter None = refl
mail-told letter (Some o) = refl

-- a letter for an actor
abbrev pub push_told : ℕ → Letter → Places → Places
push_told to letter places = set places to (mail_more letter (place_at places to))

pub push_letter-told : (to : ℕ) (letter : Letter) (places : Places) → push_letter to letter (seats_told places) ≡ seats_told (push_told to letter places)
unfolding push_letter
push_letter-told to letter places =
    set-told places to _ (mail_more letter (place_at places to)) (ap (with_letter_more letter) (seat_at-told places to) ∙ mail-told letter (place_at places to))

-- to each of these owners one Dec
abbrev pub decs_told : List (ℕ × List Amount) → Places → Places
decs_told [] places = places
decs_told (group ∷ groups) places = decs_told groups (push_told group.0 (Dec group.1) places)

pub push_decs-told : (groups : List (ℕ × List Amount)) (places : Places) → push_decs groups (seats_told places) ≡ seats_told (decs_told groups places)
unfolding push_decs
push_decs-told [] places = refl
push_decs-told (group ∷ groups) places = ap (push_decs groups) (push_letter-told group.0 (Dec group.1) places) ∙ push_decs-told groups _

-- a Confirm of the token to each of these
abbrev pub asked_told : List ℕ → ℕ → Places → Places
asked_told [] token places = places
asked_told (a ∷ members) token places = asked_told members token (push_told a (Confirm token) places)

pub ask_all-told : (members : List ℕ) (token : ℕ) (places : Places) → ask_all members token (seats_told places) ≡ seats_told (asked_told members token places)
ask_all-told [] token places = refl
ask_all-told (a ∷ members) token places = ap (ask_all members token) (push_letter-told a (Confirm token) places) ∙ ask_all-told members token _
