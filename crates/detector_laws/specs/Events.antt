-- What each event of the machine may change of what the detector's laws speak of.
use Rattle.std.specs.Prelude.{ℕ, ◌<◌, ◌≤◌, ◌≡◌, ◌≢◌, ◌⊎◌, if◌then◌else◌, true, false, List, [], ◌∷◌, ◌++◌, Option, None, Some, is_some, Contains}
use Rattle.orca_names.specs.declared.names.Thing.TheVariants.{Actor}
use Rattle.letter_kinds.specs.Detector.{Token, has, all_acked, close_token}
use Rattle.letter_kinds.specs.Holdings.{held_in}
use Rattle.letter_kinds.specs.Letters.{Letter}
use Rattle.letter_kinds.specs.declared.note.Note.TheVariants.{Unblock}
use Rattle.letter_kinds.specs.declared.note.Report.{Report}
use Rattle.machine_rules.specs.Cell.{Cell}
use Rattle.machine_rules.specs.Guards.{may_block}
use Rattle.detector_laws.specs.Cells.{held_on}
use Rattle.detector_laws.specs.Confirms.{NoConfirms, is_confirm}
use Rattle.detector_laws.specs.Reports.{IsReportOf}
use Rattle.detector_laws.specs.World.{World}

-- ---- block

-- the actor with this cell may report that it is blocked, but for letters that may wait, and this is
-- its report
pub record CanBlock (w : World) (a : ℕ) (c : Cell) (r : Report) : Type 0 where
  pub here : w.cell a ≡ Some c
  pub made : a < w.made
  pub may : may_block c [] ≡ true
  pub exact : IsReportOf a c r

-- ---- take of a letter other than a Confirm, go, collect

-- nobody was there, and now there is an actor that holds no other and has no report out
pub record IsFresh (before after : Option Cell) : Type 0 where
  pub absent : before ≡ None
  pub cell : Cell
  pub present : after ≡ Some cell
  pub quiet : cell.reported ≡ false
  pub empty : (x : ℕ) → held_in cell.holdings (Actor x) ≡ 0

-- the members are there, no letter loads one, and none but members holds one
abbrev pub IsApart : World → List ℕ → Type 0
IsApart w ms =
    (m : ℕ) → has ms m ≡ true → (w.cell m ≢ None) × (w.loaded m ≡ 0)
    × ((b : ℕ) → has ms b ≡ false → held_on (w.cell b) m ≡ 0)

-- what an actor's take of a letter other than a Confirm, its go or its collect may change
pub record Moves (w : World) (a : ℕ) (after : World) : Type 0 where
  -- its cell, and what becomes of it
  pub old : Cell
  pub new : Cell
  pub here : w.cell a ≡ Some old
  pub there : after.cell a ≡ Some new
  pub woken : new.reported ≡ false
  pub made : a < w.made
  pub grows : w.made ≤ after.made
  -- it had a frame, was dirty, or had such a letter
  pub cause : (is_some old.frame ≡ true) ⊎ (old.dirty ≡ true)
      ⊎ ((letter : Letter) × (mail : List Letter) × (w.mail a ≡ letter ∷ mail)
      × (is_confirm letter ≡ false))
  pub detector : after.detector ≡ w.detector
  -- it withdraws its report if one is out
  pub notes : after.notes ≡ (if old.reported then w.notes ++ Unblock a ∷ [] else w.notes)
  -- each other cell stays, or is that of a new actor
  pub others : (b : ℕ) → b ≢ a → (after.cell b ≡ w.cell b) ⊎ IsFresh (w.cell b) (after.cell b)
  -- of its own letters the first ones may go, and others may come
  pub own : (gone rest come : List Letter) × (w.mail a ≡ gone ++ rest)
      × (after.mail a ≡ rest ++ come) × NoConfirms come
  pub sends : (b : ℕ) → b ≢ a → (come : List Letter) × (after.mail b ≡ w.mail b ++ come)
      × NoConfirms come
  -- to the members of a set that is apart, and that it is none of, it sends nothing, and it neither
  -- loads nor holds one
  pub apart : (ms : List ℕ) → IsApart w ms → has ms a ≡ false → (m : ℕ) → has ms m ≡ true
      → (after.mail m ≡ w.mail m) × (after.loaded m ≡ 0) × (held_in new.holdings (Actor m) ≡ 0)

-- ---- reap and leave

-- what may change where some actors go
pub record Departs (w : World) (gone : List ℕ) (after : World) : Type 0 where
  pub made : after.made ≡ w.made
  pub notes : after.notes ≡ w.notes
  -- they go, with all that they hold
  pub clears : (m : ℕ) → has gone m ≡ true → (after.cell m ≡ None) × (after.mail m ≡ [])
  pub stays : (b : ℕ) → has gone b ≡ false → after.cell b ≡ w.cell b
  -- Decs go to those on whom one of them held
  pub sends : (b : ℕ) → has gone b ≡ false → (come : List Letter)
      × (after.mail b ≡ w.mail b ++ come) × NoConfirms come
  pub sends_held : (b : ℕ) → has gone b ≡ false
      → ((m : ℕ) → has gone m ≡ true → held_on (w.cell m) b ≡ 0) → after.mail b ≡ w.mail b
  pub unloaded : (b : ℕ) → w.loaded b ≡ 0 → after.loaded b ≡ 0

-- what the reap of a token may change
pub record Reaps (w : World) (t : Token) (after : World) : Type 0 where
  pub is_open : Contains w.detector.tokens t
  pub acked : all_acked t ≡ true
  pub detector : after.detector ≡ close_token t w.detector
  pub departs : Departs w t.members after

-- what the leave of an actor may change: it has no report out
pub record Leaves (w : World) (a : ℕ) (after : World) : Type 0 where
  pub cell : Cell
  pub here : w.cell a ≡ Some cell
  pub unreported : cell.reported ≡ false
  pub detector : after.detector ≡ w.detector
  pub departs : Departs w (a ∷ []) after
