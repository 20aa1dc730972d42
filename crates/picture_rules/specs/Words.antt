-- The words of a picture, and its lines.
use Rattle.std.specs.Prelude.{ℕ, Bool, List, [], ◌∷◌, ◌++◌, codes, map, flat_map, if◌then◌else◌}
use Rattle.std.specs.Fmt.{decimal}
use Rattle.orca_names.specs.declared.names.ObjName.{ObjName}
use Rattle.orca_names.specs.declared.names.Thing.{Thing}
use Rattle.orca_names.specs.declared.names.Thing.TheVariants as things
use Rattle.orca_names.specs.declared.names.Value.{Value}
use Rattle.orca_names.specs.declared.names.Value.TheVariants as values
use Rattle.behaviour_text.specs.Text.{line_of}

-- the bytes of a word
abbrev pub Word : Type 0
Word = List ℕ

-- a line as its words, the first of which says what it is
abbrev pub Line : Type 0
Line = List Word

-- the bytes of lines: one space between two words, and a line feed behind the last
abbrev pub text_of_lines : List Line → List ℕ
text_of_lines lines = flat_map line_of lines

-- ---- words

-- yes or no
abbrev pub bit_word : Bool → Word
bit_word b = if b then codes "1" else codes "0"

-- an actor by its number
abbrev pub actor_word : ℕ → Word
actor_word a = codes "a" ++ decimal a

-- an object by its owner and its serial
abbrev pub object_word : ObjName → Word
object_word n = codes "o" ++ decimal n.owner ++ codes "." ++ decimal n.serial

-- a thing by its name
abbrev pub thing_word : Thing → Word
thing_word (things.Actor a) = actor_word a
thing_word (things.Obj n) = object_word n

-- a value; null is a dash
abbrev pub value_word : Value → Word
value_word values.Null = codes "-"
value_word (values.Num n) = decimal n
value_word (values.Actor a) = actor_word a
value_word (values.Obj n) = object_word n

-- the words of values, as of a row
abbrev pub value_words : List Value → List Word
value_words values = map value_word values

-- a thing and an amount
abbrev pub amount_words : Thing × ℕ → List Word
amount_words e = thing_word e.0 ∷ decimal e.1 ∷ []

-- an actor's number, and the count that is held on it
abbrev pub held_words : ℕ × ℕ → List Word
held_words e = decimal e.0 ∷ decimal e.1 ∷ []
