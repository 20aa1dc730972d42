-- After each run the members of a token that all acknowledged are present and done.
use Rattle.std.specs.Prelude.{ℕ, ◌<◌, ◌≡◌, true, List, Some}
use Rattle.behaviour_code.specs.declared.code.Program.{Program}
use Rattle.event_rule.specs.declared.event.Event.{Event}
use Rattle.letter_kinds.specs.Detector.{Token, has}
use Rattle.machine_laws.specs.Reaps.{IsDone}
use Rattle.machine_rules.specs.Detect.{acked_token}
use Rattle.machine_rules.specs.Options.{Options}
use Rattle.machine_rules.specs.Run.{IsRun}
use Rattle.machine_rules.specs.State.{State}

abbrev pub TheAcknowledgedAreDone : Type 0
TheAcknowledgedAreDone =
    (program : Program) (options : Options) → 0 < options.weight → (book : List Event) (t : State)
    → IsRun program options book t →
    (number : ℕ) (token : Token) → acked_token number t.detector ≡ Some token
    → (a : ℕ) → has token.members a ≡ true → IsDone t a
