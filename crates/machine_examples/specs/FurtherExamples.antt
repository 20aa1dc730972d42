-- Further books, of gets in their order and of an actor that left while its Unblock was on its way.
use Rattle.std.specs.Prelude.{◌≡◌, List, [], ◌∷◌, codes}
use Rattle.orca_names.specs.declared.names.Thing.{Thing}
use Rattle.orca_names.specs.declared.names.Value.TheVariants as values
use Rattle.behaviour_code.specs.declared.code.Behaviour.{Behaviour}
use Rattle.behaviour_code.specs.declared.code.Program.{Program}
use Rattle.behaviour_code.specs.declared.instr.Instr.TheVariants as I
use Rattle.event_rule.specs.declared.event.Event.{Event}
use Rattle.event_rule.specs.declared.event.Event.TheVariants.{Take, Go, Collect, Leave, Hear, Scan}
use Rattle.letter_kinds.specs.Reports.{report_told}
use Rattle.letter_kinds.specs.Letters.{Inc}
use Rattle.letter_kinds.specs.declared.note.Note.TheVariants.{Unblock}
use Rattle.machine_examples.specs.RootsExamples.{by_roots, first_object, second_object}
use Rattle.machine_examples.specs.SmallExamples.{by_five, makes_one, up_to_no_token}
use Rattle.machine_rules.specs.Actors.{mail_at}
use Rattle.machine_rules.specs.Left.{IsLeft}
use Rattle.event_rule.specs.Runs.{IsQuiet, Leads}
use Rattle.machine_rules.specs.Next.{next}
use Rattle.machine_rules.specs.Run.{IsRun}
use Rattle.machine_rules.specs.State.{State}

-- ---- with root-only tracing the first get counts

-- Main 0, start 1, A 2, open 3: stays, makes an actor, and gives it an object that has two others
abbrev pub start_of_two_gets : Behaviour
start_of_two_gets = record {
  name = 1;
  parameters = 0;
  body =
      I.Pin ∷ I.New 0 2 ∷ I.Int 1 4 ∷ I.Row 2 (1 ∷ []) ∷ I.Row 3 (1 ∷ []) ∷ I.Row 4 (2 ∷ 3 ∷ []) ∷
      I.Send 0 3 (4 ∷ []) ∷ [];
}

-- gets both, and prints the first
abbrev pub open_both : Behaviour
open_both = record { name = 3; parameters = 1; body = I.Get 1 0 0 ∷ I.Get 2 0 1 ∷ I.Print 1 ∷ [] }

abbrev pub gets_two_objects : Program
gets_two_objects = record {
  kinds =
      record { name = 0; fields = 0; behaviours = start_of_two_gets ∷ [] }
      ∷ record { name = 2; fields = 0; behaviours = open_both ∷ [] }
      ∷ [];
  names = codes "Main" ∷ codes "start" ∷ codes "A" ∷ codes "open" ∷ [];
}

abbrev pub up_to_the_first_get : List Event
up_to_the_first_get = Take 0 ∷ Go 0 ∷ Go 0 ∷ Go 0 ∷ Take 1 ∷ Go 1 ∷ []

-- the turn gets two objects that the actor needs: it mints for the first of them, at the next go
-- for the second, and only then prints
pub record GetsAreMintedInOrder : Type 0 where
  pub once : State
  pub to_the_first : IsRun gets_two_objects by_roots up_to_the_first_get once
  pub first : mail_at once.actors 0 ≡ Inc ((first_object, 256) ∷ []) ∷ []
  pub twice : State
  pub to_the_second : Leads next once (Go 1 ∷ []) twice
  pub second : mail_at twice.actors 0
      ≡ Inc ((first_object, 256) ∷ []) ∷ Inc ((second_object, 256) ∷ []) ∷ []
  pub prints_none : twice.prints ≡ []
  pub last : State
  pub to_the_print : Leads next twice (Go 1 ∷ []) last
  pub prints : last.prints ≡ values.Obj (record { owner = 0; serial = 0 }) ∷ []

-- ---- an Unblock outlives its actor

-- the maker gives the counts back; the other, whose report is kept, takes the Dec and leaves
abbrev pub up_to_the_leave : List Event
up_to_the_leave = Go 0 ∷ Collect 0 ∷ Take 1 ∷ Collect 1 ∷ Leave 1 ∷ []

-- the actor is gone while its report is kept and its Unblock waits; when that is heard, the report
-- goes
pub record AnUnblockOutlivesItsActor : Type 0 where
  pub told : State
  pub to_the_report : IsRun makes_one by_five up_to_no_token told
  pub gone : State
  pub to_the_leave : Leads next told up_to_the_leave gone
  pub waits : gone.notes ≡ Unblock 1 ∷ []
  pub kept : gone.detector.kept ≡ report_told 1 5 [] ∷ []
  pub heard : State
  pub to_the_unblock : Leads next gone (Hear ∷ []) heard
  pub withdrawn : heard.detector.kept ≡ []
  pub last : State
  pub to_the_end : Leads next heard (Leave 0 ∷ Scan ∷ []) last
  pub nothing_left : (x : Thing) → ¬ IsLeft last.actors x
  pub quiet : IsQuiet next last
