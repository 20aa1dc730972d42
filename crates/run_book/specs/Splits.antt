-- Where a book begins in a text that has a program before it.
use Rattle.std.specs.Prelude.{ℕ, ◌≡◌, ◌≤◌, ◌⊎◌, List, [], ◌++◌, codes, length}

-- behind these bytes a line begins: they are none, or a line feed is the last
abbrev pub EndsLine : List ℕ → Type 0
EndsLine bytes = (bytes ≡ []) ⊎ ((others : List ℕ) × (bytes ≡ others ++ codes "\n"))

-- behind these bytes of the text a line begins with `book `
pub record HasBookBehind (text before : List ℕ) : Type 0 where
  pub line : EndsLine before
  pub rest : List ℕ
  pub mark : text ≡ before ++ codes "book " ++ rest

-- the book begins with the first such line; it is empty where there is none
pub record IsSplit (text program book : List ℕ) : Type 0 where
  pub whole : text ≡ program ++ book
  pub begins : (book ≡ []) ⊎ HasBookBehind text program
  pub first : (before : List ℕ) → HasBookBehind text before → length program ≤ length before

-- there is one such program and book
abbrev pub SplitsInOneWay : Type 0
SplitsInOneWay =
    (text program book other_program other_book : List ℕ) → IsSplit text program book
    → IsSplit text other_program other_book → (program ≡ other_program) × (book ≡ other_book)
