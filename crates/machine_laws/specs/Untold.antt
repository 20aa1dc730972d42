-- Nothing is told of a reaped actor.
use Rattle.std.specs.Prelude.{ℕ, ◌<◌, ◌≡◌, true, List, ◌∷◌, ◌++◌, None, Some}
use Rattle.orca_names.specs.declared.names.Thing.TheVariants.{Actor}
use Rattle.behaviour_code.specs.declared.code.Program.{Program}
use Rattle.event_rule.specs.declared.event.Event.{Event}
use Rattle.event_rule.specs.declared.event.Event.TheVariants.{Reap}
use Rattle.letter_kinds.specs.Detector.{Token, has, token_numbered}
use Rattle.letter_kinds.specs.Reports.{kept_report}
use Rattle.event_rule.specs.Runs.{Leads, Goes}
use Rattle.machine_rules.specs.Next.{next}
use Rattle.orca_names.specs.declared.trace.Trace.{Trace}
use Rattle.machine_rules.specs.Options.{Options}
use Rattle.machine_rules.specs.Run.{IsRun}
use Rattle.machine_rules.specs.State.{State}
use Rattle.plain_rules.specs.Machine.{PlainState}
use Rattle.count_laws.specs.Gone.{IsGone}
use Rattle.detector_laws.specs.Reports.{IsSilentOn}
use Rattle.machine_laws.specs.AllFacts.{AllFacts}

-- no report of the actor is kept, and no Block and no Unblock of it is among the notes
pub record IsUntold (s : State) (a : ℕ) : Type 0 where
  pub unkept : kept_report s.detector.kept a ≡ None
  pub silent : IsSilentOn a s.notes

-- the token of this number is open in s; in t its members are gone, and nothing is told of them
pub record TellsNoneOf (number : ℕ) (s t : State) : Type 0 where
  pub token : Token
  pub is_open : token_numbered number s.detector ≡ Some token
  pub gone : (a : ℕ) → has token.members a ≡ true → IsGone t.actors (Actor a)
  pub untold : (a : ℕ) → has token.members a ≡ true → IsUntold t a

-- so it is after a reap
abbrev pub ReapsLeaveNoneTold : Type 0
ReapsLeaveNoneTold =
    (trace : Trace) (p : PlainState) (s t : State) (number : ℕ) → AllFacts trace p s
    → next s (Reap number) ≡ Goes t → TellsNoneOf number s t

-- and of an actor that is gone and untold nothing is ever told again
abbrev pub UntoldStaysUntold : Type 0
UntoldStaysUntold =
    (book : List Event) (s t : State) (a : ℕ) → Leads next s book t
    → IsGone s.actors (Actor a) → IsUntold s a → IsUntold t a

-- so in each run nothing is told of those whom it reaped
abbrev pub RunsTellNoneOfTheReaped : Type 0
RunsTellNoneOfTheReaped =
    (program : Program) (options : Options) → 0 < options.weight
    → (book later : List Event) (number : ℕ) (t : State)
    → IsRun program options (book ++ Reap number ∷ later) t
    → (s : State) × IsRun program options book s × TellsNoneOf number s t
