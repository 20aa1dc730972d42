-- What the pictures of runs tell.
use Rattle.std.specs.Prelude.{◌≡◌, ◌<◌, ◌≤◌, Bool, List, [], ◌∷◌, bytes_eq, codes, length, if◌then◌else◌}
use Rattle.orca_names.specs.declared.limits.TheConstants.{BOOK_LIMIT}
use Rattle.behaviour_code.specs.WellFormed.{IsWellFormed}
use Rattle.behaviour_code.specs.declared.code.Program.{Program}
use Rattle.behaviour_text.specs.Words.{word_at}
use Rattle.event_rule.specs.Runs.{Goes}
use Rattle.event_rule.specs.declared.event.Event.{Event}
use Rattle.machine_rules.specs.Next.{next}
use Rattle.machine_rules.specs.Options.{Options}
use Rattle.machine_rules.specs.Run.{IsRun}
use Rattle.machine_rules.specs.State.{State, first_state}
use Rattle.picture_rules.specs.Parts.{state_lines}
use Rattle.picture_rules.specs.Pictures.{Tell, entry_lines}
use Rattle.picture_rules.specs.Words.{Line}
use Rattle.picture_laws.specs.Applying.{NumbersFit, Part, apply, part_lines}

-- after a run that is no longer than a book may be, all numbers have 64 bits
abbrev pub EveryRunFits : Type 0
EveryRunFits =
    (program : Program) (options : Options) (book : List Event) (s : State)
    → IsRun program options book s → length book ≤ BOOK_LIMIT → NumbersFit s

-- where it has room for an entry more, each part after that is told by the entry's lines and the part
-- before; a part of a greater number is not there, before and after
abbrev pub HidesNothing : Type 0
HidesNothing =
    (program : Program) (options : Options) (book : List Event) (e : Event) (s t : State)
    → IsWellFormed program → IsRun program options book s → length book < BOOK_LIMIT
    → next s e ≡ Goes t → (p : Part)
    → apply (entry_lines e s t) (part_lines s) p ≡ part_lines t p

-- ---- a whole picture

-- the line begins an entry
abbrev pub is_entry : Line → Bool
is_entry line = bytes_eq (word_at line 0) (codes "entry")

-- the lines up to the next entry
abbrev pub up_to_entry : List Line → List Line
up_to_entry [] = []
up_to_entry (line ∷ lines) = if is_entry line then [] else line ∷ up_to_entry lines

-- the lines of each entry
abbrev pub entries_in : List Line → List (List Line)
entries_in [] = []
entries_in (line ∷ lines) =
    if is_entry line then (line ∷ up_to_entry lines) ∷ entries_in lines else entries_in lines

-- the lines of each part after all these, by what they were before
abbrev pub apply_all : List (List Line) → (Part → List Line) → Part → List Line
apply_all [] before = before
apply_all (lines ∷ later) before = apply_all later (apply lines before)

-- of no part anything is told yet
abbrev pub nothing_told : Part → List Line
nothing_told p = []

-- by the lines of the first state and of the entries alone, each part of the last state is told; and so
-- of each state between, to which a shorter book leads
abbrev pub TellsAllStates : Type 0
TellsAllStates =
    (program : Program) (options : Options) (book : List Event) (t : State) (lines : List Line)
    → IsWellFormed program → length book ≤ BOOK_LIMIT
    → Tell (first_state program options) book t lines → (p : Part)
    → apply_all (state_lines (first_state program options) ∷ entries_in lines) nothing_told p
    ≡ part_lines t p
