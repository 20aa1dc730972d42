-- Small programs, and books that are runs of them. Each shows what one sentence of the rules says.
use Rattle.std.specs.Prelude.{◌≡◌, List, [], ◌∷◌, codes}
use Rattle.orca_names.specs.declared.names.Thing.{Thing}
use Rattle.orca_names.specs.declared.names.Thing.TheVariants.{Actor, Obj}
use Rattle.behaviour_code.specs.declared.code.Behaviour.{Behaviour}
use Rattle.behaviour_code.specs.declared.code.Program.{Program}
use Rattle.behaviour_code.specs.declared.instr.Instr.TheVariants as I
use Rattle.event_rule.specs.declared.event.Event.{Event}
use Rattle.event_rule.specs.declared.event.Event.TheVariants.{Take, Go, Collect, Leave, Block, Hear, Scan, Reap}
use Rattle.letter_kinds.specs.Reports.{report_told}
use Rattle.letter_kinds.specs.Letters.{Dec, Inc}
use Rattle.machine_rules.specs.Actors.{mail_at}
use Rattle.machine_examples.specs.Examples.{usual}
use Rattle.machine_rules.specs.Left.{IsLeft}
use Rattle.event_rule.specs.Runs.{IsQuiet, Leads}
use Rattle.machine_rules.specs.Next.{next}
use Rattle.orca_names.specs.declared.trace.Trace.TheVariants.{Deep}
use Rattle.machine_rules.specs.Options.{Options}
use Rattle.machine_rules.specs.Run.{IsRun}
use Rattle.machine_rules.specs.State.{State}

-- ---- an increment of five

abbrev pub by_five : Options
by_five = record { weight = 5; trace = Deep }

-- ---- the first actor begins clean

-- a program without `start`
abbrev pub starts_nothing : Program
starts_nothing = record { kinds = record { name = 0; fields = 0; behaviours = [] } ∷ []; names = codes "Main" ∷ [] }

-- the first actor, to which no letter comes, leaves at once; then nothing is left, and no event is
-- enabled
pub record TheFirstLeavesAtOnce : Type 0 where
  pub last : State
  pub run : IsRun starts_nothing usual (Leave 0 ∷ []) last
  pub nothing_left : (x : Thing) → ¬ IsLeft last.actors x
  pub quiet : IsQuiet next last

-- ---- a fresh actor begins clean; a scan may find nothing; an Unblock cancels its own tokens alone

-- Main 0, start 1, A 2: makes one actor, and forgets it
abbrev pub start_of_one : Behaviour
start_of_one = record { name = 1; parameters = 0; body = I.New 0 2 ∷ [] }

abbrev pub makes_one : Program
makes_one = record {
  kinds = record {
    name = 0;
    fields = 0;
    behaviours = start_of_one ∷ [];
  } ∷ record { name = 2; fields = 0; behaviours = [] } ∷ [];
  names = codes "Main" ∷ codes "start" ∷ codes "A" ∷ [];
}

-- the new actor reports at once, and the detector scans
abbrev pub up_to_no_token : List Event
up_to_no_token = Take 0 ∷ Go 0 ∷ Block 1 ∷ Hear ∷ Scan ∷ []

-- its maker gives the counts back and reports, and is asked; the other takes the Dec, which
-- withdraws its report
abbrev pub up_to_the_unblock : List Event
up_to_the_unblock = Go 0 ∷ Collect 0 ∷ Block 0 ∷ Hear ∷ Scan ∷ Take 1 ∷ Hear ∷ []

-- the maker is reaped, and the other leaves
abbrev pub both_go : List Event
both_go = Take 0 ∷ Hear ∷ Reap 1 ∷ Collect 1 ∷ Leave 1 ∷ Scan ∷ []

-- at the first scan the count of the new actor is told, the weight, and no token is opened. At the
-- second one is opened for the maker alone, and the Unblock of the other does not cancel it
pub record AnUnblockCancelsItsOwn : Type 0 where
  pub scanned : State
  pub to_no_token : IsRun makes_one by_five up_to_no_token scanned
  pub kept : scanned.detector.kept ≡ report_told 1 5 [] ∷ []
  pub opened : scanned.detector.opened ≡ 0
  pub none : scanned.detector.tokens ≡ []
  pub heard : State
  pub to_the_unblock : Leads next scanned up_to_the_unblock heard
  pub withdrawn : heard.detector.kept ≡ report_told 0 0 [] ∷ []
  pub token : heard.detector.tokens ≡ record { number = 1; members = 0 ∷ []; acked = [] } ∷ []
  pub last : State
  pub to_the_end : Leads next heard both_go last
  pub nothing_left : (x : Thing) → ¬ IsLeft last.actors x
  pub quiet : IsQuiet next last

-- ---- a mint is for the lowest owner first; an increment makes its taker dirty

-- Main 0, start 1, A 2, C 3, give 4, got 5: makes two actors of one kind and one of another, and
-- tells the last of the two
abbrev pub start_of_two_owners : Behaviour
start_of_two_owners = record {
  name = 1;
  parameters = 0;
  body = I.New 0 2 ∷ I.New 1 2 ∷ I.New 2 3 ∷ I.Send 2 4 (0 ∷ 1 ∷ []) ∷ [];
}

-- tells the first of both
abbrev pub give_both : Behaviour
give_both = record { name = 4; parameters = 2; body = I.Send 0 5 (0 ∷ 1 ∷ []) ∷ [] }

abbrev pub tells_of_two : Program
tells_of_two = record {
  kinds =
      record { name = 0; fields = 0; behaviours = start_of_two_owners ∷ [] }
      ∷ record { name = 2; fields = 0; behaviours = [] }
      ∷ record { name = 3; fields = 0; behaviours = give_both ∷ [] }
      ∷ [];
  names = codes "Main" ∷ codes "start" ∷ codes "A" ∷ codes "C" ∷ codes "give" ∷ codes "got" ∷ [];
}

abbrev pub up_to_one_mint : List Event
up_to_one_mint = Take 0 ∷ Go 0 ∷ Go 0 ∷ Go 0 ∷ Go 0 ∷ Take 3 ∷ Go 3 ∷ []

-- actor 3 holds 1 of each of two actors, and mints for the lower one; only then for the other. The
-- taker of an increment, which was clean, collects
pub record MintsAreForTheLowestFirst : Type 0 where
  pub once : State
  pub to_one_mint : IsRun tells_of_two by_five up_to_one_mint once
  pub lower : mail_at once.actors 1 ≡ Inc ((Actor 1, 5) ∷ []) ∷ []
  pub not_yet : mail_at once.actors 2 ≡ []
  pub twice : State
  pub to_the_other : Leads next once (Go 3 ∷ []) twice
  pub other : mail_at twice.actors 2 ≡ Inc ((Actor 2, 5) ∷ []) ∷ []
  pub last : State
  pub to_a_collect : Leads next twice (Take 1 ∷ Collect 1 ∷ Go 3 ∷ []) last

-- ---- a reap gives back by owners

-- Main 0, start 1, K 2, keep 3: stays, makes an actor, and gives it an object
abbrev pub start_of_giving : Behaviour
start_of_giving = record {
  name = 1;
  parameters = 0;
  body = I.Pin ∷ I.New 0 2 ∷ I.Int 1 9 ∷ I.Row 2 (1 ∷ []) ∷ I.Send 0 3 (2 ∷ []) ∷ [];
}

-- keeps it
abbrev pub keep_it : Behaviour
keep_it = record { name = 3; parameters = 1; body = I.Store 0 0 ∷ [] }

abbrev pub gives_an_object : Program
gives_an_object = record {
  kinds = record {
    name = 0;
    fields = 0;
    behaviours = start_of_giving ∷ [];
  } ∷ record { name = 2; fields = 1; behaviours = keep_it ∷ [] } ∷ [];
  names = codes "Main" ∷ codes "start" ∷ codes "K" ∷ codes "keep" ∷ [];
}

abbrev pub giving_book : List Event
giving_book =
    Take 0 ∷ Go 0 ∷ Go 0 ∷ Go 0 ∷ Collect 0 ∷ Take 1 ∷ Go 1 ∷ Take 1 ∷ Collect 1 ∷ Block 1 ∷ Hear
    ∷ Scan ∷ Take 1 ∷ Hear ∷ Reap 1 ∷ []

-- the one that keeps the object is reaped, and gives back what it held on the object and on its
-- owner in one Dec
pub record AReapGivesBackByOwners : Type 0 where
  pub last : State
  pub run : IsRun gives_an_object usual giving_book last
  pub back : mail_at last.actors 0
      ≡ Dec ((Actor 0, 1) ∷ (Obj (record { owner = 0; serial = 0 }), 1) ∷ []) ∷ []
