-- Programs with root-only tracing, and books that are runs of them.
use Rattle.std.specs.Prelude.{ℕ, ◌≡◌, ◌⊎◌, ◌↔◌, List, [], ◌∷◌, codes, length, Option, Some, None, option_map}
use Rattle.orca_names.specs.declared.names.Thing.{Thing}
use Rattle.orca_names.specs.declared.names.Thing.TheVariants.{Actor, Obj}
use Rattle.orca_names.specs.declared.names.Value.TheVariants as values
use Rattle.behaviour_code.specs.declared.code.Behaviour.{Behaviour}
use Rattle.behaviour_code.specs.declared.code.Program.{Program}
use Rattle.behaviour_code.specs.declared.instr.Instr.TheVariants as I
use Rattle.turn_rules.specs.declared.act.Frame.{Frame}
use Rattle.event_rule.specs.declared.event.Event.{Event}
use Rattle.event_rule.specs.declared.event.Event.TheVariants.{Take, Go, Collect, Leave, Block, Hear, Scan}
use Rattle.letter_kinds.specs.Letters.{App, Inc}
use Rattle.machine_rules.specs.Actors.{Actors, cell_at, mail_at}
use Rattle.machine_rules.specs.Balance.{decs_at, held_sum, incs_at, load_sum, own_at, owner_seat}
use Rattle.machine_rules.specs.Cell.{Cell}
use Rattle.machine_examples.specs.Examples.{usual}
use Rattle.machine_rules.specs.Left.{IsLeft}
use Rattle.event_rule.specs.Runs.{IsQuiet, Leads}
use Rattle.machine_rules.specs.Next.{next}
use Rattle.orca_names.specs.declared.trace.Trace.TheVariants.{Roots}
use Rattle.machine_rules.specs.Options.{Options}
use Rattle.machine_rules.specs.Run.{IsRun}
use Rattle.machine_rules.specs.State.{State}

abbrev pub by_roots : Options
by_roots = record { weight = 256; trace = Roots }

-- what is counted of a thing: by its owner, by the increments and decrements that wait for the
-- owner, by all that hold it, and by the letters that load it
pub record Tally : Type 0 where
  pub count : ℕ
  pub incs : ℕ
  pub decs : ℕ
  pub held : ℕ
  pub letters : ℕ

abbrev pub tally_of : Actors → Thing → Tally
tally_of actors x = record {
  count = own_at x (owner_seat actors x);
  incs = incs_at x (owner_seat actors x);
  decs = decs_at x (owner_seat actors x);
  held = held_sum x actors;
  letters = load_sum x actors;
}

-- the frame of an actor, where it is present and has one
abbrev pub frame_at : Actors → ℕ → Option (Option Frame)
frame_at actors a = option_map (λ (c : Cell). c.frame) (cell_at actors a)

-- ---- an object is held by one that it names

-- Main 0, start 1, J 2, K 3, make 4, keep 5: makes the two, and tells the first of the second
abbrev pub start_of_holding : Behaviour
start_of_holding = record {
  name = 1;
  parameters = 0;
  body = I.New 0 2 ∷ I.New 1 3 ∷ I.Send 0 4 (1 ∷ []) ∷ [];
}

-- stays, makes an object that names the other, and sends it there
abbrev pub make_and_send : Behaviour
make_and_send = record {
  name = 4;
  parameters = 1;
  body = I.Pin ∷ I.Row 1 (0 ∷ []) ∷ I.Send 0 5 (1 ∷ []) ∷ [];
}

-- keeps it
abbrev pub keep_it : Behaviour
keep_it = record { name = 5; parameters = 1; body = I.Store 0 0 ∷ [] }

abbrev pub is_held_by_its_own : Program
is_held_by_its_own = record {
  kinds =
      record { name = 0; fields = 0; behaviours = start_of_holding ∷ [] }
      ∷ record { name = 2; fields = 0; behaviours = make_and_send ∷ [] }
      ∷ record { name = 3; fields = 1; behaviours = keep_it ∷ [] }
      ∷ [];
  names = codes "Main" ∷ codes "start" ∷ codes "J" ∷ codes "K" ∷ codes "make" ∷ codes "keep" ∷ [];
}

abbrev pub the_object : Thing
the_object = Obj (record { owner = 1; serial = 0 })

abbrev pub up_to_the_object : List Event
up_to_the_object = Take 0 ∷ Go 0 ∷ Go 0 ∷ Go 0 ∷ Go 0 ∷ Take 1 ∷ Go 1 ∷ []

abbrev pub from_the_object : List Event
from_the_object =
    Go 1 ∷ Take 2 ∷ Go 2 ∷ Collect 0 ∷ Take 1 ∷ Take 2 ∷ Leave 0 ∷ Collect 1 ∷ Collect 2 ∷ Block 2
    ∷ Hear ∷ Scan ∷ []

-- the same with deep tracing
abbrev pub holding_deep : List Event
holding_deep =
    Take 0 ∷ Go 0 ∷ Go 0 ∷ Go 0 ∷ Go 0 ∷ Take 1 ∷ Go 1 ∷ Go 1 ∷ Go 1 ∷ Take 2 ∷ Take 2 ∷ Go 2
    ∷ Collect 0 ∷ Take 1 ∷ Take 2 ∷ Leave 0 ∷
    Collect 1 ∷ Take 2 ∷ Collect 2 ∷ Leave 2 ∷ Take 1 ∷ Collect 1 ∷ []

-- the letter counts the object and its owner, and brings the row of the object, which names the
-- receiver. At the end the object is counted, so its owner keeps it and, through its row, holds the
-- one that holds it; with deep tracing both go
pub record AHeldObjectStays : Type 0 where
  pub sent : State
  pub to_the_object : IsRun is_held_by_its_own by_roots up_to_the_object sent
  pub letter : mail_at sent.actors 2
      ≡ App 5 (values.Obj (record { owner = 1; serial = 0 }) ∷ [])
      ((Actor 1, None) ∷ (the_object, None) ∷ [])
      ((Actor 1, None) ∷ (the_object, Some (values.Actor 2 ∷ [])) ∷ (Actor 2, None) ∷ [])
      ∷ []
  pub last : State
  pub to_the_end : Leads next sent from_the_object last
  pub prints : last.prints ≡ []
  pub made : length last.actors ≡ 3
  pub objects : last.objects ≡ 1
  pub owner : tally_of last.actors (Actor 1) ≡ record {
    count = 1;
    incs = 0;
    decs = 0;
    held = 1;
    letters = 0;
  }
  pub object : tally_of last.actors the_object ≡ record {
    count = 1;
    incs = 0;
    decs = 0;
    held = 1;
    letters = 0;
  }
  pub holder : tally_of last.actors (Actor 2) ≡ record {
    count = 1;
    incs = 0;
    decs = 0;
    held = 1;
    letters = 0;
  }
  pub left : (x : Thing) → IsLeft last.actors x ↔ (x ≡ Actor 1) ⊎ ((x ≡ Actor 2) ⊎ (x ≡ the_object))
  pub quiet : IsQuiet next last
  pub deep : State
  pub deep_run : IsRun is_held_by_its_own usual holding_deep deep
  pub deep_left : (x : Thing) → IsLeft deep.actors x ↔ x ≡ Actor 1
  pub deep_quiet : IsQuiet next deep

-- ---- an object is got from another

-- Main 0, start 1, A 2, open 3: stays, makes an actor, and gives it an object that has an object
-- that has 4
abbrev pub start_of_opening : Behaviour
start_of_opening = record {
  name = 1;
  parameters = 0;
  body = I.Pin ∷ I.New 0 2 ∷ I.Int 1 4 ∷ I.Row 2 (1 ∷ []) ∷ I.Row 3 (2 ∷ []) ∷ I.Send 0 3 (3 ∷ [])
      ∷ [];
}

-- gets the object, and prints what it gets from that
abbrev pub open_it : Behaviour
open_it = record { name = 3; parameters = 1; body = I.Get 1 0 0 ∷ I.Get 2 1 0 ∷ I.Print 2 ∷ [] }

abbrev pub gets_an_object : Program
gets_an_object = record {
  kinds = record {
    name = 0;
    fields = 0;
    behaviours = start_of_opening ∷ [];
  } ∷ record { name = 2; fields = 0; behaviours = open_it ∷ [] } ∷ [];
  names = codes "Main" ∷ codes "start" ∷ codes "A" ∷ codes "open" ∷ [];
}

abbrev pub first_object : Thing
first_object = Obj (record { owner = 0; serial = 0 })

abbrev pub second_object : Thing
second_object = Obj (record { owner = 0; serial = 1 })

abbrev pub up_to_the_turn : List Event
up_to_the_turn = Take 0 ∷ Go 0 ∷ Go 0 ∷ Go 0 ∷ Take 1 ∷ []

abbrev pub from_the_mint : List Event
from_the_mint =
    Take 0 ∷ Go 1 ∷ Go 1 ∷ Collect 0 ∷ Take 1 ∷ Collect 1 ∷ Take 0 ∷ Collect 0 ∷ Leave 1 ∷ []

-- where the turn gets the inner object, which the actor does not hold, though it has the row, it
-- mints for that, and its frame stays where it was; at the next go the turn prints. At the end both
-- objects are gone
pub record AGotObjectIsMinted : Type 0 where
  pub taken : State
  pub to_the_turn : IsRun gets_an_object by_roots up_to_the_turn taken
  pub minted : State
  pub to_the_mint : Leads next taken (Go 1 ∷ []) minted
  pub frame : frame_at minted.actors 1 ≡ frame_at taken.actors 1
  pub letter : mail_at minted.actors 0 ≡ Inc ((first_object, 256) ∷ []) ∷ []
  pub prints_none : minted.prints ≡ []
  pub first : tally_of minted.actors (Actor 0) ≡ record {
    count = 1;
    incs = 0;
    decs = 0;
    held = 1;
    letters = 0;
  }
  pub inner : tally_of minted.actors first_object ≡ record {
    count = 0;
    incs = 256;
    decs = 0;
    held = 256;
    letters = 0;
  }
  pub outer : tally_of minted.actors second_object ≡ record {
    count = 1;
    incs = 0;
    decs = 0;
    held = 1;
    letters = 0;
  }
  pub other : tally_of minted.actors (Actor 1) ≡ record {
    count = 256;
    incs = 0;
    decs = 0;
    held = 256;
    letters = 0;
  }
  pub last : State
  pub to_the_end : Leads next minted from_the_mint last
  pub prints : last.prints ≡ values.Num 4 ∷ []
  pub made : length last.actors ≡ 2
  pub objects : last.objects ≡ 2
  pub left : (x : Thing) → IsLeft last.actors x ↔ x ≡ Actor 0
  pub quiet : IsQuiet next last

-- ---- a row that a letter brought stays

-- with an increment of five
abbrev pub by_roots_and_five : Options
by_roots_and_five = record { weight = 5; trace = Roots }

-- Main 0, start 1, B 2, A 3, make 4, pass 5, open 6, look 7: stays, makes the two, and tells the
-- first of itself and of the second
abbrev pub start_of_passing_on : Behaviour
start_of_passing_on = record {
  name = 1;
  parameters = 0;
  body = I.Pin ∷ I.New 0 2 ∷ I.New 1 3 ∷ I.Own 2 ∷ I.Send 0 4 (2 ∷ 1 ∷ []) ∷ [];
}

-- sends an object of its own that has the one that it got
abbrev pub pass_on : Behaviour
pass_on = record { name = 5; parameters = 2; body = I.Row 2 (0 ∷ []) ∷ I.Send 1 6 (2 ∷ []) ∷ [] }

-- sends an object that has 7
abbrev pub make_seven : Behaviour
make_seven = record {
  name = 4;
  parameters = 2;
  body = I.Int 2 7 ∷ I.Row 3 (2 ∷ []) ∷ I.Send 0 5 (3 ∷ 1 ∷ []) ∷ [];
}

-- keeps the object, and looks at it later
abbrev pub keep_and_look : Behaviour
keep_and_look = record { name = 6; parameters = 1; body = I.Store 0 0 ∷ I.Own 1 ∷ I.Send 1 7 [] ∷ [] }

-- prints what the object in it has
abbrev pub look_inside : Behaviour
look_inside = record {
  name = 7;
  parameters = 0;
  body = I.Load 0 0 ∷ I.Get 1 0 0 ∷ I.Get 2 1 0 ∷ I.Print 2 ∷ [];
}

abbrev pub looks_later : Program
looks_later = record {
  kinds =
      record { name = 0; fields = 0; behaviours = start_of_passing_on ∷ pass_on ∷ [] }
      ∷ record { name = 2; fields = 0; behaviours = make_seven ∷ [] }
      ∷ record { name = 3; fields = 1; behaviours = keep_and_look ∷ look_inside ∷ [] }
      ∷ [];
  names = codes "Main" ∷ codes "start" ∷ codes "B" ∷ codes "A" ∷ codes "make" ∷ codes "pass" ∷ codes "open" ∷ codes "look" ∷ [];
}

-- the one that looks collects first
abbrev pub up_to_the_look : List Event
up_to_the_look =
    Take 0 ∷ Go 0 ∷ Go 0 ∷ Go 0 ∷ Go 0 ∷ Take 1 ∷ Go 1 ∷ Go 1 ∷ Take 0 ∷ Go 0 ∷ Go 0 ∷ Go 1
    ∷ Take 2 ∷ Take 2 ∷ Go 2 ∷ Go 2 ∷ Collect 2 ∷ Take 2 ∷ Go 2 ∷ []

abbrev pub from_the_look : List Event
from_the_look =
    Take 1 ∷ Go 2 ∷ Go 2 ∷ Collect 0 ∷ Take 2 ∷ Collect 1 ∷ Take 0 ∷ Take 2 ∷ Collect 0 ∷ Block 1
    ∷ Collect 2 ∷ Take 1 ∷ Collect 1 ∷ Block 1 ∷ Leave 2 ∷
    Take 0 ∷ Collect 0 ∷ Take 1 ∷ Collect 1 ∷ Leave 1 ∷ Hear ∷ Hear ∷ Hear ∷ Hear ∷ Scan ∷ []

-- the actor that looks holds the outer object, and neither the inner one nor its owner: it mints
-- for both. The row of the inner object, which a letter brought, is still there after the
-- collection, so 7 is printed
pub record ABroughtRowStays : Type 0 where
  pub asked : State
  pub to_the_look : IsRun looks_later by_roots_and_five up_to_the_look asked
  pub letter : mail_at asked.actors 1 ≡ Inc ((Actor 1, 5) ∷ (the_object, 5) ∷ []) ∷ []
  pub first : tally_of asked.actors (Actor 0) ≡ record {
    count = 2;
    incs = 0;
    decs = 0;
    held = 2;
    letters = 0;
  }
  pub outer : tally_of asked.actors first_object ≡ record {
    count = 1;
    incs = 0;
    decs = 0;
    held = 1;
    letters = 0;
  }
  pub owner : tally_of asked.actors (Actor 1) ≡ record {
    count = 6;
    incs = 5;
    decs = 0;
    held = 11;
    letters = 0;
  }
  pub inner : tally_of asked.actors the_object ≡ record {
    count = 1;
    incs = 5;
    decs = 0;
    held = 6;
    letters = 0;
  }
  pub looker : tally_of asked.actors (Actor 2) ≡ record {
    count = 10;
    incs = 0;
    decs = 0;
    held = 10;
    letters = 0;
  }
  pub last : State
  pub to_the_end : Leads next asked from_the_look last
  pub prints : last.prints ≡ values.Num 7 ∷ []
  pub made : length last.actors ≡ 3
  pub objects : last.objects ≡ 2
  pub left : (x : Thing) → IsLeft last.actors x ↔ x ≡ Actor 0
  pub quiet : IsQuiet next last
