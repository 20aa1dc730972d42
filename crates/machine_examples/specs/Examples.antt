-- Programs, and books that are runs of them.
use Rattle.std.specs.Prelude.{ℕ, ◌≡◌, List, [], ◌∷◌, ◌++◌, ◌↔◌, codes, length}
use Rattle.orca_names.specs.declared.names.Thing.{Thing}
use Rattle.orca_names.specs.declared.names.Thing.TheVariants.{Actor}
use Rattle.orca_names.specs.declared.names.Value.TheVariants.{Num}
use Rattle.behaviour_code.specs.declared.code.Behaviour.{Behaviour}
use Rattle.behaviour_code.specs.declared.code.Program.{Program}
use Rattle.behaviour_code.specs.declared.instr.Instr.TheVariants as I
use Rattle.event_rule.specs.declared.event.Event.{Event}
use Rattle.event_rule.specs.declared.event.Event.TheVariants.{Take, Go, Collect, Block, Hear, Scan, Reap}
use Rattle.machine_rules.specs.Left.{IsLeft}
use Rattle.event_rule.specs.Runs.{IsQuiet, Leads}
use Rattle.machine_rules.specs.Next.{next}
use Rattle.orca_names.specs.declared.trace.Trace.TheVariants.{Deep}
use Rattle.machine_rules.specs.Options.{Options}
use Rattle.machine_rules.specs.Run.{IsRun}
use Rattle.machine_rules.specs.State.{State}

-- ---- the usual options

abbrev pub usual : Options
usual = record { weight = 256; trace = Deep }

-- ---- two peers that hold each other

-- Main 0, start 1, Peer 2, meet 3, poke 4, ping 5
abbrev pub names_of_two : List (List ℕ)
names_of_two = codes "Main" ∷ codes "start" ∷ codes "Peer" ∷ codes "meet" ∷ codes "poke" ∷ codes "ping" ∷ []

-- makes the two, tells each of the other, and pokes the first
abbrev pub start_of_two : Behaviour
start_of_two = record {
  name = 1;
  parameters = 0;
  body = I.New 0 2 ∷ I.New 1 2 ∷ I.Send 1 3 (0 ∷ []) ∷ I.Send 0 3 (1 ∷ []) ∷ I.Send 0 4 [] ∷ [];
}

-- keeps the other
abbrev pub meet : Behaviour
meet = record { name = 3; parameters = 1; body = I.Store 0 0 ∷ [] }

-- pings the other
abbrev pub poke : Behaviour
poke = record { name = 4; parameters = 0; body = I.Load 0 0 ∷ I.Send 0 5 [] ∷ [] }

-- prints 1
abbrev pub ping : Behaviour
ping = record { name = 5; parameters = 0; body = I.Int 0 1 ∷ I.Print 0 ∷ [] }

-- the first actor makes two peers that keep each other
abbrev pub two_hold_each_other : Program
two_hold_each_other = record {
  kinds = record {
    name = 0;
    fields = 0;
    behaviours = start_of_two ∷ [];
  } ∷ record { name = 2; fields = 1; behaviours = meet ∷ poke ∷ ping ∷ [] } ∷ [];
  names = names_of_two;
}

-- up to where the first token is cancelled, since the second peer was pinged
abbrev pub two_up_to_the_ping : List Event
two_up_to_the_ping =
    Take 0 ∷ Go 0 ∷ Go 0 ∷ Go 0 ∷ Go 0 ∷ Go 0 ∷ Go 0 ∷ Collect 0 ∷
    Take 2 ∷ Go 2 ∷ Take 2 ∷ Collect 2 ∷ Block 2 ∷
    Take 1 ∷ Go 1 ∷ Take 1 ∷ Go 1 ∷ Go 1 ∷ Take 1 ∷ Collect 1 ∷ Block 1 ∷
    Hear ∷ Hear ∷ Scan ∷ Take 1 ∷ Take 2 ∷ Hear ∷ Hear ∷ []

-- from there to the end
abbrev pub two_to_the_end : List Event
two_to_the_end =
    Go 2 ∷ Go 2 ∷ Take 2 ∷ Collect 2 ∷ Block 2 ∷ Hear ∷ Scan ∷ Take 1 ∷ Take 2 ∷ Hear ∷ Hear
    ∷ Reap 2 ∷
    Block 0 ∷ Hear ∷ Scan ∷ Take 0 ∷ Hear ∷ Reap 3 ∷ []

-- the book is a run of the program. At the ping a token was opened, and none is open; at the end 1
-- was printed, three actors were made, nothing is left, and no event is enabled
pub record TwoHoldEachOtherAndGo : Type 0 where
  pub ping : State
  pub up_to_the_ping : IsRun two_hold_each_other usual two_up_to_the_ping ping
  pub opened : ping.detector.opened ≡ 1
  pub cancelled : ping.detector.tokens ≡ []
  pub last : State
  pub to_the_end : Leads next ping two_to_the_end last
  pub run : IsRun two_hold_each_other usual (two_up_to_the_ping ++ two_to_the_end) last
  pub prints : last.prints ≡ Num 1 ∷ []
  pub made : length last.actors ≡ 3
  pub nothing_left : (x : Thing) → ¬ IsLeft last.actors x
  pub quiet : IsQuiet next last

-- ---- an object is passed on

-- Main 0, start 1, A 2, B 3, give 4, keep 5
abbrev pub names_of_passing : List (List ℕ)
names_of_passing = codes "Main" ∷ codes "start" ∷ codes "A" ∷ codes "B" ∷ codes "give" ∷ codes "keep" ∷ []

-- stays, makes the two, and gives the first an object with 9 and the second's name
abbrev pub start_of_passing : Behaviour
start_of_passing = record {
  name = 1;
  parameters = 0;
  body = I.Pin ∷ I.New 0 2 ∷ I.New 1 3 ∷ I.Int 2 9 ∷ I.Row 3 (2 ∷ []) ∷ I.Send 0 4 (3 ∷ 1 ∷ []) ∷ [];
}

-- sends the object on
abbrev pub give : Behaviour
give = record { name = 4; parameters = 2; body = I.Send 1 5 (0 ∷ []) ∷ [] }

-- prints what the object has, and keeps nothing
abbrev pub keep : Behaviour
keep = record { name = 5; parameters = 1; body = I.Get 1 0 0 ∷ I.Print 1 ∷ [] }

-- the first actor makes an object that goes through two others
abbrev pub passes_an_object_on : Program
passes_an_object_on = record {
  kinds =
      record { name = 0; fields = 0; behaviours = start_of_passing ∷ [] }
      ∷ record { name = 2; fields = 0; behaviours = give ∷ [] }
      ∷ record { name = 3; fields = 0; behaviours = keep ∷ [] }
      ∷ [];
  names = names_of_passing;
}

-- the object is freed by the last collection
abbrev pub passing_book : List Event
passing_book =
    Take 0 ∷ Go 0 ∷ Go 0 ∷ Go 0 ∷ Go 0 ∷ Take 1 ∷ Go 1 ∷ Take 0 ∷ Go 1 ∷ Go 1 ∷ Take 2 ∷ Go 2 ∷ Go 2 ∷
    Collect 0 ∷ Take 1 ∷ Take 2 ∷ Collect 1 ∷ Take 0 ∷ Take 2 ∷ Collect 0 ∷ Block 1 ∷ Collect 2
    ∷ Take 0 ∷ Collect 0 ∷ Block 2 ∷
    Hear ∷ Hear ∷ Scan ∷ Take 1 ∷ Take 2 ∷ Hear ∷ Hear ∷ Reap 1 ∷ []

-- the book is a run of the program. At the end 9 was printed, three actors and one object were made,
-- the first actor alone is left, and no event is enabled
pub record AnObjectIsPassedOnAndGoes : Type 0 where
  pub last : State
  pub run : IsRun passes_an_object_on usual passing_book last
  pub prints : last.prints ≡ Num 9 ∷ []
  pub made : length last.actors ≡ 3
  pub objects : last.objects ≡ 1
  pub left : (x : Thing) → IsLeft last.actors x ↔ x ≡ Actor 0
  pub quiet : IsQuiet next last
