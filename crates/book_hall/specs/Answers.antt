-- What the plain hall answers to one who asks for an entry.
use Rattle.std.specs.Prelude.{ℕ, ◌≡◌, List, Option, None, Some, Result, Ok, Err}
use Rattle.event_rule.specs.declared.event.Event.{Event}
use Rattle.work_board.specs.declared.answers.Committed.{Committed}
use Rattle.work_board.specs.declared.answers.Refuse.{Refuse}
use Rattle.hall_rules.specs.declared.claim.Claim.{Claim}
use Rattle.hall_rules.specs.Answers.{IsEntered}
use Rattle.hall_rules.specs.Causes.{IsRefusal, entry_cause}
use Rattle.hall_rules.specs.Claims.{without_for}
use Rattle.hall_rules.specs.Halls.{HallValue}

-- without a cause to refuse it the entry was made, else the answer is the cause and the book stays
abbrev pub Answers : HallValue → Option ℕ → Event → Result Committed Refuse → HallValue → Type 0
Answers h asker e (Ok done) after = (entry_cause h asker e ≡ None) × IsEntered h e done after
Answers h asker e (Err refuse) after = IsRefusal (entry_cause h asker e) refuse × (after.book ≡ h.book)

-- a pass, or nobody, asked for an entry: beside the book nothing is another, but that these are the claims
pub record AnswersEntry (h : HallValue) (asker : Option ℕ) (e : Event) (claims : List Claim)
    (answer : Result Committed Refuse) (after : HallValue) : Type 0 where
  pub answers : Answers h asker e answer after
  pub rest : after ≡ record h { book = after.book; claims = claims }

-- a pass asked for it by a commit, and has no claim on the event's actor any more
abbrev pub AnswersCommit : HallValue → ℕ → Event → Result Committed Refuse → HallValue → Type 0
AnswersCommit h pass e answer after =
    AnswersEntry h (Some pass) e (without_for pass e h.claims) answer after
