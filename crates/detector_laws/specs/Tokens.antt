-- Each open token is sealed, so that its members never act again, or spoiled, so that it is never
-- reaped.
use Rattle.std.specs.Prelude.{ℕ, ◌+◌, ◌≡◌, ◌≤◌, ◌<◌, ◌==◌, ◌&&◌, ◌||◌, ◌⊎◌, if◌then◌else◌, Bool, true, false, List, [], ◌∷◌, Option, Some, Contains}
use Rattle.letter_kinds.specs.Detector.{Token, Detector, has}
use Rattle.letter_kinds.specs.Reports.{kept_report}
use Rattle.letter_kinds.specs.Letters.{Letter}
use Rattle.letter_kinds.specs.declared.note.Note.{Note}
use Rattle.letter_kinds.specs.declared.note.Note.TheVariants.{Block, Unblock, Ack}
use Rattle.letter_kinds.specs.declared.note.Report.{Report}
use Rattle.machine_rules.specs.Cell.{Cell}
use Rattle.detector_laws.specs.Cells.{held_on, is_reporting}
use Rattle.detector_laws.specs.Confirms.{EndsInConfirm, confirm_count, other_before_confirm}
use Rattle.detector_laws.specs.Reports.{IsBlocked, IsSilentOn}

-- ---- where the acknowledgement of a member is

-- how many of these notes are Acks of the token by the actor
abbrev pub ack_count : ℕ → ℕ → List Note → ℕ
ack_count token a [] = 0
ack_count token a (Block b count held ∷ notes) = ack_count token a notes
ack_count token a (Unblock b ∷ notes) = ack_count token a notes
ack_count token a (Ack other b ∷ notes) =
    (if (other == token) && (b == a) then 1 else 0) + ack_count token a notes

-- for a member: its Confirms that wait, its Acks under way, and its acknowledgement that was noted
abbrev pub trace_count : Token → ℕ → List Letter → List Note → ℕ
trace_count t m mail notes =
    confirm_count t.number mail + ack_count t.number m notes + (if has t.acked m then 1 else 0)

-- ---- sealed

-- the member is blocked and stays so: only members hold it, and it has no letter but Confirms
pub record IsSealedMember (t : Token) (m : ℕ) (cell : ℕ → Option Cell) (mail : List Letter)
    (loaded : ℕ) (notes : List Note) : Type 0 where
  pub blocked : IsBlocked (cell m)
  pub letters : EndsInConfirm t.number mail
  pub silent : IsSilentOn m notes
  pub held : (b : ℕ) → has t.members b ≡ false → held_on (cell b) m ≡ 0
  pub unloaded : loaded ≡ 0
  -- it has exactly one of these: the Confirm, its Ack under way, its acknowledgement
  pub one : trace_count t m mail notes ≡ 1

-- all members are so
abbrev pub IsSealed : (ℕ → Option Cell) → (ℕ → List Letter) → (ℕ → ℕ) → List Note → Token → Type 0
IsSealed cell mail loaded notes t =
    (m : ℕ) → has t.members m ≡ true → IsSealedMember t m cell (mail m) (loaded m) notes

-- ---- spoiled

-- there is an Unblock of the actor with no Ack of the token by it before
abbrev pub unblocks_before_ack : ℕ → ℕ → List Note → Bool
unblocks_before_ack token a [] = false
unblocks_before_ack token a (Block b count held ∷ notes) = unblocks_before_ack token a notes
unblocks_before_ack token a (Unblock b ∷ notes) = (b == a) || unblocks_before_ack token a notes
unblocks_before_ack token a (Ack other b ∷ notes) =
    if (other == token) && (b == a) then false else unblocks_before_ack token a notes

-- the member has not acknowledged, and its Unblock comes before its Ack or will come
pub record IsSpoiledMember (t : Token) (m : ℕ) (reported : Bool) (mail : List Letter)
    (notes : List Note) : Type 0 where
  pub unnoted : has t.acked m ≡ false
  pub cause : (unblocks_before_ack t.number m notes ≡ true)
      ⊎ ((reported ≡ true) × (other_before_confirm t.number mail ≡ true))

-- some member is so
abbrev pub IsSpoiled : (ℕ → Option Cell) → (ℕ → List Letter) → List Note → Token → Type 0
IsSpoiled cell mail notes t =
    (m : ℕ) × (has t.members m ≡ true) × IsSpoiledMember t m (is_reporting (cell m)) (mail m) notes

-- ---- all open tokens

-- what holds of all open tokens
pub record SoundTokens (d : Detector) (cell : ℕ → Option Cell) (mail : ℕ → List Letter) (loaded : ℕ
    → ℕ) (notes : List Note) : Type 0 where
  -- two tokens have no member in common
  pub apart : (t u : Token) → Contains d.tokens t → Contains d.tokens u
      → (m : ℕ) → has t.members m ≡ true → has u.members m ≡ true → t.number ≡ u.number
  -- of each member a report is kept
  pub kept : (t : Token) → Contains d.tokens t → (m : ℕ) → has t.members m ≡ true
      → (r : Report) × (kept_report d.kept m ≡ Some r)
  -- numbers are used once
  pub unique : (t u : Token) → Contains d.tokens t → Contains d.tokens u → t.number ≡ u.number
      → t ≡ u
  pub numbers : (t : Token) → Contains d.tokens t → t.number ≤ d.opened
  -- no Confirm and no Ack of a token that is not opened yet
  pub letters : (a n : ℕ) → d.opened < n → confirm_count n (mail a) ≡ 0
  pub heard : (a n : ℕ) → d.opened < n → ack_count n a notes ≡ 0
  -- a member has at most one of these: the Confirm, its Ack under way, its acknowledgement
  pub once : (t : Token) → Contains d.tokens t → (m : ℕ) → has t.members m ≡ true
      → trace_count t m (mail m) notes ≤ 1
  pub state : (t : Token) → Contains d.tokens t → IsSealed cell mail loaded notes t
      ⊎ IsSpoiled cell mail notes t
