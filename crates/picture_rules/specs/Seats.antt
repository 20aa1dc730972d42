-- The lines of an actor: its cell, what it counts, and the letters that wait for it.
use Rattle.std.specs.Prelude.{ℕ, List, [], ◌∷◌, ◌++◌, codes, map, flat_map, Option, None, Some}
use Rattle.std.specs.Option.{option_map_or}
use Rattle.std.specs.Fmt.{decimal}
use Rattle.std.specs.FinMap as m
use Rattle.orca_names.specs.declared.names.Thing.{Thing}
use Rattle.orca_names.specs.declared.names.Value.{Value}
use Rattle.behaviour_code.specs.Names.{text_of}
use Rattle.turn_rules.specs.declared.act.Frame.{Frame}
use Rattle.letter_kinds.specs.Letters.{Letter, App, Inc, Dec, Confirm}
use Rattle.letter_kinds.specs.Counting.{Loaded}
use Rattle.letter_kinds.specs.Holdings.{Row}
use Rattle.machine_rules.specs.Actors.{Seat}
use Rattle.machine_rules.specs.Cell.{Cell}
use Rattle.picture_rules.specs.Words.{Line, amount_words, bit_word, thing_word, value_words}

-- ---- letters, whose behaviours have their texts among these

-- the things that a letter loads, each counted once
abbrev pub loads_lines : List Loaded → List Line
loads_lines [] = []
loads_lines (e ∷ load) = (codes "loads" ∷ map (λ l. thing_word l.0) (e ∷ load)) ∷ []

-- an object whose row a letter brings uncounted
abbrev pub brings_line : Loaded → Line
brings_line e = codes "brings" ∷ thing_word e.0 ∷ value_words (option_map_or (λ row. row) e.1 [])

-- a letter; an application letter with what it loads, and what it brings
abbrev pub letter_lines : List (List ℕ) → Letter → List Line
letter_lines texts (App behaviour args load rows) =
    (codes "letter" ∷ text_of texts behaviour ∷ value_words args)
    ∷ (loads_lines load ++ map brings_line rows)
letter_lines texts (Inc things) = (codes "inc" ∷ flat_map amount_words things) ∷ []
letter_lines texts (Dec things) = (codes "dec" ∷ flat_map amount_words things) ∷ []
letter_lines texts (Confirm token) = (codes "confirm" ∷ decimal token ∷ []) ∷ []

-- ---- the cell

-- its number and kind; whether it is pinned, dirty, reported; its own count, and its next serial
abbrev pub actor_line : ℕ → Cell → Line
actor_line a c =
    codes "actor" ∷ decimal a ∷ decimal c.kind ∷ bit_word c.fields.pinned ∷ bit_word c.dirty
    ∷ bit_word c.reported ∷ decimal c.holdings.count ∷ decimal c.holdings.next ∷ []

-- the behaviour in which it stands, the next instruction there, and its registers
abbrev pub turn_line : Frame → Line
turn_line f = codes "turn" ∷ decimal f.behaviour ∷ decimal f.place ∷ value_words f.registers

-- that line, if it is in a behaviour
abbrev pub turn_lines : Option Frame → List Line
turn_lines frame = option_map_or (λ f. turn_line f ∷ []) frame []

-- its fields, if it has any
abbrev pub fields_lines : List Value → List Line
fields_lines [] = []
fields_lines (v ∷ vs) = (codes "fields" ∷ value_words (v ∷ vs)) ∷ []

-- an own object, with its count and its row
abbrev pub object_line : ℕ × (Row × ℕ) → Line
object_line e = codes "object" ∷ decimal e.0 ∷ decimal e.1.1 ∷ value_words e.1.0

-- a thing of another actor, with the count that is held on it
abbrev pub holds_line : Thing × (ℕ × Option Row) → Line
holds_line e = codes "holds" ∷ thing_word e.0 ∷ decimal e.1.0 ∷ []

-- another's object, with the row that a letter brought
abbrev pub knows_line : Thing × Row → Line
knows_line e = codes "knows" ∷ thing_word e.0 ∷ value_words e.1

-- the actor, its turn and fields, what it owns, holds and knows
abbrev pub cell_lines : ℕ → Cell → List Line
cell_lines a c =
    actor_line a c
    ∷ (turn_lines c.frame
    ++ fields_lines c.fields.values
    ++ map object_line (m.entries c.holdings.rows)
    ++ map holds_line (m.entries c.holdings.foreign)
    ++ map knows_line (m.entries c.known))

-- ---- the seat

-- an actor with its letters, the first of which it takes next; nothing where it is gone
abbrev pub seat_lines : List (List ℕ) → ℕ → Option Seat → List Line
seat_lines texts a None = []
seat_lines texts a (Some o) = cell_lines a o.cell ++ flat_map (letter_lines texts) o.mail
