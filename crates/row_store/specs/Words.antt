-- Words at places, and the words of a row.
use Rattle.std.specs.Prelude.{ℕ, ◌≡◌, ◌+◌, ◌*◌, ◌/◌, ◌%◌, ◌^◌, ◌==◌, ◌<◌, ◌≤◌, ⊤, if◌then◌else◌, List, [], ◌∷◌, Contains, Some, length, slice_get}
use Rattle.std.specs.Ordering.{nat_cmp}
use Rattle.std.specs.FinMap as m
use Rattle.orca_names.specs.declared.names.Value.{Value}
use Rattle.orca_names.specs.declared.names.Value.TheVariants.{Null, Num, Actor, Obj}
use Rattle.orca_names.specs.Places.{padded}

-- words by their places
abbrev pub Words : Type 0
Words = m.FinMap nat_cmp ℕ

-- with these words from a place on
abbrev pub with_words : ℕ → List ℕ → Words → Words
with_words at [] known = known
with_words at (w ∷ ws) known = with_words (at + 1) ws (m.insert known at w)

-- these words lie from a place on
pub record LieAt (at : ℕ) (words : List ℕ) (known : Words) : Type 0 where
  pub lies : (i w : ℕ) → slice_get words i ≡ Some w → m.get known (at + i) ≡ Some w

-- ---- a value in two words

-- its kind, with the actor that it names or that owns it
abbrev pub head_word : Value → ℕ
head_word Null = 0
head_word (Num n) = 1
head_word (Actor a) = 2 + 4 * a
head_word (Obj n) = 3 + 4 * n.owner

-- its number or serial
abbrev pub tail_word : Value → ℕ
tail_word Null = 0
tail_word (Num n) = n
tail_word (Actor a) = 0
tail_word (Obj n) = n.serial

-- numbers and names have no more bits than they may
abbrev pub FitsValue : Value → Type 0
FitsValue Null = ⊤
FitsValue (Num n) = n < 2 ^ 64
FitsValue (Actor a) = a < 2 ^ 32
FitsValue (Obj n) = (n.owner < 2 ^ 32) × (n.serial < 2 ^ 64)

-- the value of two words
abbrev pub value_of : ℕ → ℕ → Value
value_of head tail =
    if head % 4 == 0 then Null
    else (if head % 4 == 1 then Num tail
    else (if head % 4 == 2 then Actor (head / 4)
    else Obj (record { owner = head / 4; serial = tail })))

-- ---- a row in a block

-- those of values, one after another
abbrev pub value_words : List Value → List ℕ
value_words [] = []
value_words (v ∷ vs) = head_word v ∷ tail_word v ∷ value_words vs

-- its length, then two words for each of eight values
abbrev pub row_words : List Value → List ℕ
row_words row = length row ∷ value_words (padded row)

-- one to eight values, each of which fits
pub record IsRow (row : List Value) : Type 0 where
  pub some : 1 ≤ length row
  pub few : length row ≤ 8
  pub fits : (i : ℕ) (v : Value) → slice_get row i ≡ Some v → FitsValue v

-- the first of a block's words
abbrev pub first_word : ℕ → ℕ
first_word block = 17 * block

-- the block's words are known, and are those of the row
abbrev pub HoldsRow : ℕ → List Value → Words → Type 0
HoldsRow block row known = LieAt (first_word block) (row_words row) known

-- the block's words are known, and are those of some row
abbrev pub HasRow : ℕ → Words → Type 0
HasRow block known = (row : List Value) × IsRow row × HoldsRow block row known

-- with the row in the block
abbrev pub with_row : ℕ → List Value → Words → Words
with_row block row known = with_words (first_word block) (row_words row) known

-- the block's words may be written
abbrev pub CanPut : ℕ → List ℕ → Type 0
CanPut block places = (i : ℕ) → i < 17 → Contains places (first_word block + i)

-- words are known and may be written as before, beside the same
pub record SameWords {S B : Type 0} (knows : S → Words) (opens : S → List ℕ) (stands : S → B)
    (old new : S) : Type 0 where
  pub known : knows new ≡ knows old
  pub places : opens new ≡ opens old
  pub beside : stands new ≡ stands old
