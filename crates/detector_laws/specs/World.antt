-- All that an event may change of what the detector's facts speak of.
use Rattle.std.specs.Prelude.{ℕ, suc, ◌==◌, if◌then◌else◌, ◌&&◌, is_some, true, List, [], ◌∷◌, ◌++◌, Option, Some}
use Rattle.letter_kinds.specs.Detector.{Detector, has, hear_note, closed_set, after_scan}
use Rattle.letter_kinds.specs.Reports.{block_note}
use Rattle.letter_kinds.specs.Letters.{Letter, Confirm}
use Rattle.letter_kinds.specs.declared.note.Note.{Note}
use Rattle.letter_kinds.specs.declared.note.Note.TheVariants.{Ack}
use Rattle.letter_kinds.specs.declared.note.Report.{Report}
use Rattle.machine_rules.specs.Cell.{Cell}
use Rattle.detector_laws.specs.Acknowledged.{OnlyMembersAcknowledge}
use Rattle.detector_laws.specs.Cells.{is_reporting}
use Rattle.detector_laws.specs.Facts.{DetectorFacts}
use Rattle.detector_laws.specs.Reports.{ExactReports}
use Rattle.detector_laws.specs.Tokens.{SoundTokens}

-- all actors and what is under way
pub record World : Type 0 where
  -- how many actors were made
  pub made : ℕ
  -- the cell of each actor, where it is present
  pub cell : ℕ → Option Cell
  -- the letters that wait for each actor
  pub mail : ℕ → List Letter
  -- how many letters, anywhere, load an actor
  pub loaded : ℕ → ℕ
  pub detector : Detector
  -- the notes that the detector has not heard yet
  pub notes : List Note

-- ---- the facts hold

abbrev pub ReportsAreExact : World → Type 0
ReportsAreExact w = ExactReports w.made w.cell w.detector.kept w.notes

abbrev pub TokensAreSound : World → Type 0
TokensAreSound w = SoundTokens w.detector w.cell w.mail w.loaded w.notes

abbrev pub MembersAcknowledge : World → Type 0
MembersAcknowledge w = OnlyMembersAcknowledge w.detector w.mail w.notes

abbrev pub FactsHold : World → Type 0
FactsHold w = DetectorFacts w.made w.detector w.cell w.mail w.loaded w.notes

-- ---- events of the detector

-- it hears a note; these are left
abbrev pub hear_in_world : World → Note → List Note → World
hear_in_world w note notes = record w { detector = hear_note note w.detector; notes = notes }

-- the letters, where each member that is present gets a Confirm
abbrev pub confirms_of : List ℕ → ℕ → (ℕ → Option Cell) → (ℕ → List Letter) → ℕ → List Letter
confirms_of members token cell mail a =
    if has members a && is_some (cell a) then mail a ++ Confirm token ∷ [] else mail a

-- it looks for the largest closed set, and asks its members
abbrev pub scan_in_world : World → World
scan_in_world w =
    record w {
      detector = after_scan w.detector (closed_set w.detector);
      mail = confirms_of (closed_set w.detector) (suc w.detector.opened) w.cell w.mail;
    }

-- ---- events of an actor that only the detector sees

-- the map with another value at one place
abbrev pub at : {A : Type 0} → (ℕ → A) → ℕ → A → ℕ → A
at f a v x = if x == a then v else f x

-- the actor with this cell reports that it is blocked
abbrev pub block_in_world : World → ℕ → Cell → Report → World
block_in_world w a c r = record w {
  cell = at w.cell a (Some (record c { reported = true }));
  notes = w.notes ++ block_note r ∷ [];
}

-- the actor takes a Confirm, which it acknowledges while its report is out; these letters are left
abbrev pub take_confirm : World → ℕ → ℕ → List Letter → World
take_confirm w a token mail =
    record w {
      mail = at w.mail a mail;
      notes = if is_reporting (w.cell a) then w.notes ++ Ack token a ∷ [] else w.notes;
    }
