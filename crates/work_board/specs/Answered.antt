-- What a board's answers say of the run, and what a task asks of its worker.
use Rattle.std.specs.Prelude.{ℕ, Bool, true, false, Option, Some, None, Result, Ok, Err}
use Rattle.event_rule.specs.declared.event.Event.{Event}
use Rattle.event_rule.specs.declared.event.Event.TheVariants.{Go, Collect}
use Rattle.work_board.specs.declared.answers.Refuse.{Refuse}
use Rattle.work_board.specs.declared.answers.Refuse.TheVariants as why
use Rattle.work_board.specs.declared.answers.Look.{Look}
use Rattle.work_board.specs.declared.answers.Look.TheVariants.{Actor, Detector, Others, Rest, Stop}

-- a worker ends here
abbrev pub is_end : Look → Bool
is_end (Actor a) = false
is_end (Detector e) = false
is_end Others = false
is_end Rest = true
is_end Stop = true

-- the run can't be finished after this refusal
abbrev pub spoils : Refuse → Bool
spoils (why.Unknown made) = false
spoils why.Gone = false
spoils (why.Busy holder) = false
spoils why.NotReady = false
spoils (why.Budget length) = false
spoils (why.Full actor) = true
spoils why.NoMemory = true

-- the answer is such a refusal
abbrev pub is_spoiling : {A : Type 0} → Result A Refuse → Bool
is_spoiling (Ok done) = false
is_spoiling (Err refuse) = spoils refuse

-- the event is evaluated before it is entered: a turn and a collection alone are
abbrev pub is_evaluated : Event → Bool
is_evaluated (Go a) = true
is_evaluated (Collect a) = true
is_evaluated _ = false

-- the actor whose segment an event evaluates, with the length of the book at its claim: a turn alone
-- evaluates one
abbrev pub segment : Event → ℕ → Option (ℕ × ℕ)
segment (Go a) at = Some (a, at)
segment _ at = None
