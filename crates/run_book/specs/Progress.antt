-- How far a text is read, and what is wrong with its next line.
use Rattle.std.specs.Prelude.{ℕ, ◌≡◌, ◌<◌, ◌≤◌, ◌⊎◌, Bool, true, false, List, ◌++◌, All, codes, length, take}
use Rattle.std.specs.List.{flat_map}
use Rattle.orca_names.specs.declared.limits.TheConstants.{BOOK_LIMIT}
use Rattle.event_rule.specs.declared.event.Event.{Event}
use Rattle.run_book.specs.Books.{entry_line}
use Rattle.run_book.specs.Reading.{IsEntry, MayFollow, Says}
use Rattle.run_book.specs.declared.header.Header.{Header}

-- before a place stand a first line that says this, and a line for each of these entries
pub record IsReadTo (bytes : List ℕ) (h : Header) (entries : List Event) (from : ℕ) : Type 0 where
  pub first : List ℕ
  pub says : Says first h
  pub follow : All (MayFollow h.leaves) entries
  pub few : length entries ≤ BOOK_LIMIT
  pub within : from ≤ length bytes
  pub whole : take from bytes ≡ first ++ codes "\n" ++ flat_map entry_line entries

-- the line is an entry
abbrev pub HasEntry : Bool → List ℕ → Type 0
HasEntry leaves line = (e : Event) × IsEntry leaves e line

-- the lowest fault of a line behind so many others, which has a line feed or not
abbrev pub IsLowestFault : Bool → List ℕ → ℕ → Bool → ℕ → Type 0
IsLowestFault leaves line before ended kind =
    ((kind ≡ 2) × ¬ HasEntry leaves line)
    ⊎ ((kind ≡ 3) × HasEntry leaves line × (BOOK_LIMIT ≤ before))
    ⊎ ((kind ≡ 4) × HasEntry leaves line × (before < BOOK_LIMIT) × (ended ≡ false))

-- the entry of such a line, which has no fault
pub record IsNext (leaves : Bool) (line : List ℕ) (before : ℕ) (ended : Bool) (e : Event) : Type 0 where
  pub entry : IsEntry leaves e line
  pub room : before < BOOK_LIMIT
  pub feed : ended ≡ true
