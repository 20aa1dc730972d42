-- Whom a reap takes.
use Rattle.std.specs.Prelude.{ℕ, ◌<◌, ◌≡◌, true, false, List, [], None, Some}
use Rattle.orca_names.specs.declared.names.Thing.TheVariants.{Actor}
use Rattle.behaviour_code.specs.declared.code.Program.{Program}
use Rattle.event_rule.specs.declared.event.Event.{Event}
use Rattle.event_rule.specs.declared.event.Event.TheVariants.{Reap}
use Rattle.letter_kinds.specs.Detector.{Token, has, token_numbered}
use Rattle.machine_rules.specs.Actors.{cell_at, mail_at, seat, seat_at}
use Rattle.count_laws.specs.Apart.{HasNoEvent}
use Rattle.machine_rules.specs.Balance.{load_sum}
use Rattle.machine_rules.specs.Cell.{Cell}
use Rattle.event_rule.specs.Runs.{IsEnabled}
use Rattle.machine_rules.specs.Next.{next}
use Rattle.orca_names.specs.declared.trace.Trace.{Trace}
use Rattle.machine_rules.specs.Options.{Options}
use Rattle.plain_rules.specs.Machine.{PlainState}
use Rattle.machine_rules.specs.Run.{IsRun}
use Rattle.machine_rules.specs.State.{State}
use Rattle.detector_laws.specs.Tokens.{IsSealed}
use Rattle.machine_laws.specs.AllFacts.{AllFacts}

-- the actor is present and has a report out; it has no frame and no letter, is clean and not pinned,
-- so no event of its own is enabled
pub record IsDone (s : State) (a : ℕ) : Type 0 where
  pub cell : Cell
  pub present : seat_at s.actors a ≡ seat cell []
  pub reported : cell.reported ≡ true
  pub idle : cell.frame ≡ None
  pub clean : cell.dirty ≡ false
  pub unpinned : cell.fields.pinned ≡ false
  pub still : HasNoEvent s a

-- the token of this number is open and sealed, and its members are done
pub record TakesTheDone (s : State) (number : ℕ) : Type 0 where
  pub token : Token
  pub is_open : token_numbered number s.detector ≡ Some token
  pub sealed : IsSealed (cell_at s.actors) (mail_at s.actors)
      (λ x. load_sum (Actor x) s.actors) s.notes token
  pub done : (a : ℕ) → has token.members a ≡ true → IsDone s a

-- a reap is enabled only there
abbrev pub ReapsTakeTheDone : Type 0
ReapsTakeTheDone =
    (trace : Trace) (p : PlainState) (s : State) → AllFacts trace p s → (number : ℕ)
    → IsEnabled next s (Reap number) → TakesTheDone s number

-- in each run too
abbrev pub RunsReapTheDone : Type 0
RunsReapTheDone =
    (program : Program) (options : Options) → 0 < options.weight → (book : List Event) (s : State)
    → IsRun program options book s →
    (number : ℕ) → IsEnabled next s (Reap number) → TakesTheDone s number
