-- What an entry and a run are told by.
use Rattle.std.specs.Prelude.{ℕ, ◌≡◌, ◌-◌, ◌↔◌, Bool, IsTrue, List, ◌∷◌, [], ◌++◌, Option, length, map}
use Rattle.event_rule.specs.Runs.{Goes, IsQuiet, Leads}
use Rattle.event_rule.specs.declared.event.Event.{Event}
use Rattle.machine_rules.specs.Next.{next}
use Rattle.machine_rules.specs.Run.{IsRun}
use Rattle.machine_rules.specs.State.{State}
use Rattle.orca_core.specs.Machine.{Machine}
use Rattle.orca_parts.specs.Parts.{state_of}
use Rattle.picture_rules.specs.Blocked.{note_line}
use Rattle.picture_rules.specs.Parts.{state_lines}
use Rattle.picture_rules.specs.Pictures.{Tell, end_line, entry_line, heard, posted, print_line, printed}
use Rattle.picture_rules.specs.Words.{Line, text_of_lines}
use Rattle.book_picture.specs.Texts.{AreTexts, AreTouched, touched_changes}
use Rattle.book_picture.specs.declared.before.Before.{Before}

-- the event is enabled, and not refused
abbrev pub LeadsOn : State → Event → Type 0
LeadsOn s e = (t : State) × (next s e ≡ Goes t)

-- so is each event of the book in its turn
abbrev pub CanFollow : State → List Event → Type 0
CanFollow s book = (t : State) × Leads next s book t

-- the state is reached by a run of its program
abbrev pub IsAfterRun : State → Type 0
IsAfterRun s = (book : List Event) × IsRun s.program s.options book s

-- the state of the machine is that of its parts
abbrev pub IsStateOfParts : Machine → Type 0
IsStateOfParts m = m.state ≡ state_of m.state.program m.state.options m.kept

-- this is what the prepared event finds
pub record IsBefore (names : List (List ℕ)) (e : Event) (m : Machine) (b : Before) : Type 0 where
  pub touched : AreTouched e m.kept b.touched.actors.items b.touched.token
  pub texts : AreTexts names m.state b.touched.actors.items b.touched.token b.texts
  pub prints : b.prints ≡ length m.state.prints
  pub notes : b.notes ≡ length m.state.notes - heard e

-- the lines of an event from one state to another, told by the actors and the token that it touched
abbrev pub told_lines : List ℕ → Option ℕ → Event → State → State → List Line
told_lines actors token e s t =
    entry_line e ∷ (map print_line (printed s t) ++ map note_line (posted e s t)
    ++ touched_changes actors token s t)

-- the lines of the entries of a book that leads from s to t stand behind what was written
pub record TellsRun (s : State) (book : List Event) (t : State) (old new : List ℕ) : Type 0 where
  pub lines : List Line
  pub told : Tell s book t lines
  pub bytes : new ≡ old ++ text_of_lines lines

-- the lines of a state, of the entries of a book from it on, and of the end
pub record TellsToTheEnd (s : State) (book : List Event) (old new : List ℕ) : Type 0 where
  pub state : State
  pub entries : List Line
  pub told : Tell s book state entries
  pub is_quiet : Bool
  pub end : IsTrue is_quiet ↔ IsQuiet next state
  pub bytes : new ≡ old ++ text_of_lines (state_lines s ++ entries ++ end_line is_quiet ∷ [])
