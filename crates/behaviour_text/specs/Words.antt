-- Words and numerals.
use Rattle.std.specs.Prelude.{ℕ, ◌^◌, Bool, false, List, [], ◌∷◌, ◌==◌, ◌&&◌, Option, Some, None, nat_lt, not, if◌then◌else◌, length, filter, slice_index_or}
use Rattle.std.specs.Char.{is_ascii_digit}
use Rattle.std.specs.List.{slice_split, list_all}
use Rattle.std.specs.Option.{unwrap_or}
use Rattle.std.specs.Str.Parse.{digits_value}
use Rattle.text_lines.specs.Lines.{is_space}

abbrev pub is_word : List ℕ → Bool
is_word piece = not (length piece == 0)

-- the words of a line: what stands between its spaces
abbrev pub words_of : List ℕ → List (List ℕ)
words_of line = filter is_word (slice_split is_space line)

-- 0, or digits that do not begin with 0
abbrev pub has_numeral_form : List ℕ → Bool
has_numeral_form [] = false
has_numeral_form (d ∷ []) = is_ascii_digit d
has_numeral_form (d ∷ e ∷ ds) = not (d == 48) && list_all is_ascii_digit (d ∷ e ∷ ds)

-- the number of a numeral, which has 64 bits
abbrev pub numeral : List ℕ → Option ℕ
numeral word =
    if has_numeral_form word && nat_lt (digits_value 10 word) (2 ^ 64)
    then Some (digits_value 10 word) else None

-- the word at a place, empty where there is none
abbrev pub word_at : List (List ℕ) → ℕ → List ℕ
word_at words i = slice_index_or words i []

-- the number of a word, 0 where it is no numeral
abbrev pub number_of : List ℕ → ℕ
number_of word = unwrap_or (numeral word) 0

abbrev pub number_at : List (List ℕ) → ℕ → ℕ
number_at words i = number_of (word_at words i)
