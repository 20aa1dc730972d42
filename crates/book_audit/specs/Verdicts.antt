-- What a book proves to be: a run of a program, or none from some entry on.
use Rattle.std.specs.Prelude.{ℕ, ◌≡◌, ◌⊎◌, List, [], ◌∷◌, ◌++◌, length, ⊤}
use Rattle.behaviour_code.specs.declared.code.Program.{Program}
use Rattle.event_rule.specs.Runs.{IsFull, NotEnabled}
use Rattle.event_rule.specs.declared.event.Event.{Event}
use Rattle.machine_rules.specs.Next.{next}
use Rattle.machine_rules.specs.Run.{IsRun}
use Rattle.machine_rules.specs.State.{State}
use Rattle.orca_core.specs.Machine.{Machine, NoneIsAway}
use Rattle.run_book.specs.Books.{BookValue, options_of_book}
use Rattle.book_audit.specs.declared.auditing.Verdict.{Verdict}
use Rattle.book_audit.specs.declared.auditing.Verdict.TheVariants.{Run, Not}

-- the book is a run of the program, whatever state it leads to
abbrev pub IsARun : Program → BookValue → Type 0
IsARun program book = (s : State) × IsRun program (options_of_book book) book.entries s

-- and the machine stands behind its last entry, with all cells at home, and without blocks
pub record IsAuditedRun (program : Program) (book : BookValue) (m : Machine) : Type 0 where
  pub run : IsRun program (options_of_book book) book.entries m.state
  pub steps : m.steps ≡ length book.entries
  pub home : NoneIsAway m
  pub none : m.blocks ≡ []

-- why an entry is refused: 1, it is not enabled; 2, it would make an actor too many
abbrev pub IsCause : ℕ → State → Event → Type 0
IsCause cause s e = ((cause ≡ 1) × (next s e ≡ NotEnabled)) ⊎ ((cause ≡ 2) × (next s e ≡ IsFull))

-- the entries before this place are a run, and the one at it is refused for this cause
pub record IsRefuted (program : Program) (book : BookValue) (place cause : ℕ) : Type 0 where
  pub front : List Event
  pub entry : Event
  pub later : List Event
  pub whole : book.entries ≡ front ++ entry ∷ later
  pub at : place ≡ length front
  pub state : State
  pub run : IsRun program (options_of_book book) front state
  pub refused : IsCause cause state entry

-- the verdict is right
abbrev pub IsVerdict : Program → BookValue → Verdict → Type 0
IsVerdict program book (Run m) = IsAuditedRun program book m
IsVerdict program book (Not place cause) = IsRefuted program book place cause

-- it is that the book is a run
abbrev pub SaysRun : Verdict → Type 0
SaysRun (Run m) = ⊤
SaysRun (Not place cause) = ⊥
