-- What kept reports and notes tell of each actor is what its cell is.
use Rattle.std.specs.Prelude.{ℕ, ◌≡◌, ◌≢◌, ◌≤◌, ◌==◌, if◌then◌else◌, true, false, List, [], ◌∷◌, Option, Some, None, ⊤}
use Rattle.std.specs.List.Sorted.{IsStrictlySortedBy}
use Rattle.std.specs.Ordering.{nat_cmp, on}
use Rattle.orca_names.specs.declared.names.Thing.TheVariants.{Actor}
use Rattle.letter_kinds.specs.Holdings.{held_in}
use Rattle.letter_kinds.specs.Reports.{count_on, kept_report, report_told}
use Rattle.letter_kinds.specs.declared.note.Note.{Note}
use Rattle.letter_kinds.specs.declared.note.Note.TheVariants.{Block, Unblock, Ack}
use Rattle.letter_kinds.specs.declared.note.Report.{Report}
use Rattle.machine_rules.specs.Cell.{Cell}
use Rattle.detector_laws.specs.Cells.{is_reporting}

-- ---- what is told of one actor

-- no report is out, or this one, or the notes contradict one another
pub data Told : Type 0 where
  Unreported : Told
  Reported : (report : Report) → Told
  Contradictory : Told

-- after a further Block
abbrev pub with_block : Told → Report → Told
with_block Unreported r = Reported r
with_block (Reported q) r = Contradictory
with_block Contradictory r = Contradictory

-- after a further Unblock
abbrev pub with_unblock : Told → Told
with_unblock Unreported = Contradictory
with_unblock (Reported r) = Unreported
with_unblock Contradictory = Contradictory

-- what is told of an actor after a further note
abbrev pub with_note : ℕ → Told → Note → Told
with_note a told (Block b count held) =
    if b == a then with_block told (report_told b count held) else told
with_note a told (Unblock b) = if b == a then with_unblock told else told
with_note a told (Ack token b) = told

-- after these notes, first to last
abbrev pub with_notes : ℕ → Told → List Note → Told
with_notes a told [] = told
with_notes a told (note ∷ notes) = with_notes a (with_note a told note) notes

-- what the detector's own report of an actor tells
abbrev pub told_by_kept : Option Report → Told
told_by_kept None = Unreported
told_by_kept (Some r) = Reported r

-- what the kept reports and then the notes tell of an actor
abbrev pub told_of : ℕ → List Report → List Note → Told
told_of a kept notes = with_notes a (told_by_kept (kept_report kept a)) notes

-- no Block and no Unblock of the actor is among the notes
abbrev pub IsSilentOn : ℕ → List Note → Type 0
IsSilentOn a [] = ⊤
IsSilentOn a (Block b count held ∷ notes) = (b ≢ a) × IsSilentOn a notes
IsSilentOn a (Unblock b ∷ notes) = (b ≢ a) × IsSilentOn a notes
IsSilentOn a (Ack token b ∷ notes) = IsSilentOn a notes

-- ---- what is told is true

-- the report tells the actor's count, and its counts on others
pub record IsReportOf (a : ℕ) (c : Cell) (r : Report) : Type 0 where
  pub actor : r.actor ≡ a
  pub count : r.count ≡ c.holdings.count
  pub held : (x : ℕ) → count_on r.held x ≡ held_in c.holdings (Actor x)

-- the actor is present, has a report out, and nothing to do
pub record IsBlocked (actor : Option Cell) : Type 0 where
  pub cell : Cell
  pub here : actor ≡ Some cell
  pub reported : cell.reported ≡ true
  pub unpinned : cell.fields.pinned ≡ false
  pub clean : cell.dirty ≡ false
  pub idle : cell.frame ≡ None

-- the actor is as it was last told
abbrev pub IsAsTold : Option Cell → ℕ → Told → Type 0
IsAsTold actor a Unreported = is_reporting actor ≡ false
IsAsTold actor a (Reported r) = (blocked : IsBlocked actor) × IsReportOf a blocked.cell r
IsAsTold actor a Contradictory = ⊥

-- each actor is as it was last told: of one that left, what was told was withdrawn; where so many
-- actors were made, nothing is told of any other
pub record ExactReports (made : ℕ) (cell : ℕ → Option Cell) (kept : List Report)
    (notes : List Note) : Type 0 where
  pub last : (a : ℕ) → IsAsTold (cell a) a (told_of a kept notes)
  pub unmade : (a : ℕ) → made ≤ a → (kept_report kept a ≡ None) × IsSilentOn a notes

-- ---- their order

-- one report an actor, in rising order of actors
abbrev pub IsRising : List Report → Type 0
IsRising reports = IsStrictlySortedBy (on (λ r. r.actor) nat_cmp) reports
