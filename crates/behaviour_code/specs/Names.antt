-- Names and their texts.
use Rattle.std.specs.Prelude.{ℕ, List, [], ◌∷◌, ◌++◌, ◌||◌, ◌&&◌, ◌==◌, Bool, if◌then◌else◌, bytes_eq, length, nat_le, slice_index_or}
use Rattle.std.specs.Char.{is_ascii_alphanumeric}
use Rattle.std.specs.List.{list_all, list_any, position_or_len}
use Rattle.orca_names.specs.declared.limits.TheConstants.{NAME_LIMIT}

-- a letter, a digit or _
abbrev pub is_name_byte : ℕ → Bool
is_name_byte b = is_ascii_alphanumeric b || (b == 95)

-- 1 to 32 letters, digits or _
abbrev pub is_name : List ℕ → Bool
is_name text = nat_le 1 (length text) && nat_le (length text) NAME_LIMIT && list_all is_name_byte text

-- the text of a name, empty where it has none
abbrev pub text_of : List (List ℕ) → ℕ → List ℕ
text_of texts name = slice_index_or texts name []

-- the texts, with one more at the end if it is new
abbrev pub with_text : List (List ℕ) → List ℕ → List (List ℕ)
with_text texts text = if list_any (bytes_eq text) texts then texts else texts ++ text ∷ []

-- the name of a text, and the texts after it: the place where it stands, or else the next
abbrev pub intern : List (List ℕ) → List ℕ → ℕ × List (List ℕ)
intern texts text = (position_or_len (bytes_eq text) texts, with_text texts text)
