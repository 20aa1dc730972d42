-- What a book's text is, and what may be wrong with it.
use Rattle.std.specs.Prelude.{ℕ, ◌≡◌, ◌≢◌, ◌+◌, ◌<◌, ◌≤◌, ◌^◌, ◌⊎◌, Bool, true, false, List, ◌++◌, All, Some, codes, length, slice_get, ⊤}
use Rattle.std.specs.List.{flat_map}
use Rattle.orca_names.specs.declared.limits.TheConstants.{BOOK_LIMIT}
use Rattle.orca_names.specs.declared.trace.Trace.TheVariants.{Deep}
use Rattle.event_rule.specs.declared.event.Event.{Event}
use Rattle.event_rule.specs.declared.event.Event.TheVariants.{Take, Go, Collect, Leave, Block, Hear, Scan, Reap}
use Rattle.event_rule.specs.Events.{event_text}
use Rattle.text_lines.specs.Lines.{lines_of}
use Rattle.run_book.specs.Books.{BookValue, IsWeight, entry_line, first_line}
use Rattle.run_book.specs.declared.header.Header.{Header}
use Rattle.run_book.specs.declared.errors.BookErr.{BookErr}
use Rattle.run_book.specs.declared.errors.BookErr.TheVariants as E

-- `book 1`: of weight 256, traced deep, without the entry `leave`
abbrev pub SaysOld : List ℕ → Header → Type 0
SaysOld line h = (line ≡ codes "book 1") × (h ≡ record { weight = 256; trace = Deep; leaves = false })

-- `book 2`, the weight and how is traced; each entry may follow
pub record SaysNew (line : List ℕ) (h : Header) : Type 0 where
  pub spelled : line ≡ first_line h.weight h.trace
  pub weight : IsWeight h.weight
  pub leaves : h.leaves ≡ true

-- the first line of a text says this
abbrev pub Says : List ℕ → Header → Type 0
Says line h = SaysOld line h ⊎ SaysNew line h

-- an entry that may follow, `leave` or not: actors have 32 bits, tokens 64
abbrev pub MayFollow : Bool → Event → Type 0
MayFollow leaves (Take a) = a < 2 ^ 32
MayFollow leaves (Go a) = a < 2 ^ 32
MayFollow leaves (Collect a) = a < 2 ^ 32
MayFollow leaves (Leave a) = (a < 2 ^ 32) × (leaves ≡ true)
MayFollow leaves (Block a) = a < 2 ^ 32
MayFollow leaves Hear = ⊤
MayFollow leaves Scan = ⊤
MayFollow leaves (Reap token) = token < 2 ^ 64

-- the line of an entry that may follow
abbrev pub IsEntry : Bool → Event → List ℕ → Type 0
IsEntry leaves e line = MayFollow leaves e × (line ≡ event_text e)

-- the bytes are a text of the book: a first line, then a line for each entry, of which there are at
-- most 100,000,000
pub record IsBookText (bytes : List ℕ) (b : BookValue) : Type 0 where
  pub header : Header
  pub first : List ℕ
  pub says : Says first header
  pub weight : b.weight ≡ header.weight
  pub trace : b.trace ≡ header.trace
  pub entries : All (MayFollow header.leaves) b.entries
  pub few : length b.entries ≤ BOOK_LIMIT
  pub whole : bytes ≡ first ++ codes "\n" ++ flat_map entry_line b.entries

-- ---- faults

-- the text has a first line, which says this
abbrev pub Begins : List ℕ → Header → Type 0
Begins bytes h = (first : List ℕ) × (slice_get (lines_of bytes) 0 ≡ Some first) × Says first h

-- kind 1: the first line is none
pub record LacksHeader (bytes : List ℕ) (number : ℕ) : Type 0 where
  pub at : number ≡ 1
  pub none : (h : Header) → ¬ Begins bytes h

-- kind 2: a line behind it is no entry that may follow
pub record LacksEntry (bytes : List ℕ) (number : ℕ) : Type 0 where
  pub before : ℕ
  pub line : List ℕ
  pub at : number ≡ before + 2
  pub is : slice_get (lines_of bytes) (before + 1) ≡ Some line
  pub none : (h : Header) (e : Event) → Begins bytes h → ¬ IsEntry h.leaves e line

-- kind 3: the 100,000,001st line behind the first
pub record IsOneTooMany (bytes : List ℕ) (number : ℕ) : Type 0 where
  pub at : number ≡ BOOK_LIMIT + 2
  pub there : BOOK_LIMIT + 1 < length (lines_of bytes)

-- kind 4: the last line has no line feed
pub record LacksFeed (bytes : List ℕ) (number : ℕ) : Type 0 where
  pub some : 1 ≤ number
  pub at : number ≡ length (lines_of bytes)
  pub none : (before : List ℕ) → bytes ≢ before ++ codes "\n"

-- the text has a fault of a kind at the line of a number, counted from 1
abbrev pub HasFault : List ℕ → ℕ → ℕ → Type 0
HasFault bytes number kind =
    ((kind ≡ 1) × LacksHeader bytes number)
    ⊎ ((kind ≡ 2) × LacksEntry bytes number)
    ⊎ ((kind ≡ 3) × IsOneTooMany bytes number)
    ⊎ ((kind ≡ 4) × LacksFeed bytes number)

-- the first line with a fault, and the lowest kind there
pub record IsFirstFault (bytes : List ℕ) (number kind : ℕ) : Type 0 where
  pub there : HasFault bytes number kind
  pub first : (other_number other_kind : ℕ) → HasFault bytes other_number other_kind
      → (number < other_number) ⊎ ((number ≡ other_number) × (kind ≤ other_kind))

-- the error tells the first fault, if it is not want of memory
abbrev pub TellsFirst : List ℕ → BookErr → Type 0
TellsFirst bytes (E.Fault line kind) = IsFirstFault bytes line kind
TellsFirst bytes E.NoMemory = ⊤

-- the text is of no book, if the error is not want of memory
abbrev pub TellsNone : List ℕ → BookErr → Type 0
TellsNone bytes (E.Fault line kind) = (b : BookValue) → ¬ IsBookText bytes b
TellsNone bytes E.NoMemory = ⊤

-- the two books are alike but for spare memory
pub record AreAlike (a b : BookValue) : Type 0 where
  pub entries : a.entries ≡ b.entries
  pub weight : a.weight ≡ b.weight
  pub trace : a.trace ≡ b.trace
