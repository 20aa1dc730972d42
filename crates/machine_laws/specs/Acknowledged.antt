-- In each run members alone acknowledge a token.
use Rattle.std.specs.Prelude.{ℕ, ◌<◌, ◌≡◌, true, List, ◌∷◌, Some}
use Rattle.behaviour_code.specs.declared.code.Program.{Program}
use Rattle.event_rule.specs.declared.event.Event.{Event}
use Rattle.letter_kinds.specs.Detector.{Token, has, token_numbered}
use Rattle.letter_kinds.specs.declared.note.Note.{Note}
use Rattle.letter_kinds.specs.declared.note.Note.TheVariants.{Ack}
use Rattle.machine_rules.specs.Actors.{mail_at}
use Rattle.machine_rules.specs.Options.{Options}
use Rattle.machine_rules.specs.Run.{IsRun}
use Rattle.machine_rules.specs.State.{State}
use Rattle.detector_laws.specs.Acknowledged.{OnlyMembersAcknowledge}

-- after each run, of each open token, no Confirm waits for one that is no member, and no Ack by one
-- is under way
abbrev pub InRunsMembersAloneAreAsked : Type 0
InRunsMembersAloneAreAsked =
    (program : Program) (options : Options) → 0 < options.weight
    → (book : List Event) (s : State) → IsRun program options book s
    → OnlyMembersAcknowledge s.detector (mail_at s.actors) s.notes

-- so whoever's acknowledgement of an open token is heard next is a member of it
abbrev pub InRunsMembersAloneAcknowledge : Type 0
InRunsMembersAloneAcknowledge =
    (program : Program) (options : Options) → 0 < options.weight
    → (book : List Event) (s : State) → IsRun program options book s
    → (number a : ℕ) (later : List Note) → s.notes ≡ Ack number a ∷ later
    → (t : Token) → token_numbered number s.detector ≡ Some t → has t.members a ≡ true
