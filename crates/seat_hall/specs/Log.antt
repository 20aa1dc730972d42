-- The hall as a function of its log.
use Rattle.std.specs.Prelude.{ℕ, ◌≡◌, ◌==◌, ◌+◌, ◌≤◌, Bool, true, false, nat_lt, if◌then◌else◌, List, [], ◌∷◌, ◌++◌, filter, length, slice_index_or, slice_set, Option, Some, None, ⊤}
use Rattle.std.specs.Option.{option_and_then, option_map_or}
use Rattle.orca_names.specs.declared.options.Options.{Options}
use Rattle.behaviour_code.specs.declared.code.Program.{Program}
use Rattle.event_rule.specs.Events.{actor_of}
use Rattle.event_rule.specs.declared.event.Event.{Event}
use Rattle.machine_rules.specs.State.{State}
use Rattle.work_board.specs.declared.answers.Refuse.{Refuse}
use Rattle.hall_rules.specs.Causes as causes
use Rattle.hall_rules.specs.Halls.{HallValue, hall_state}
use Rattle.hall_rules.specs.declared.claim.Claim.{Claim}
use Rattle.seat_hall.specs.declared.item.Item.{Item}
use Rattle.seat_hall.specs.declared.item.Item.TheVariants.{Claimed, Entered, Ended, Stopped, Made}

-- the hall after a log: the run's program, options and budget; its book; for each actor that was
-- made the pass whose claim on it is out; whether a stop was asked; and how many passes were split off
pub record Logged : Type 0 where
  pub program : Program
  pub options : Options
  pub budget : ℕ
  pub book : List Event
  pub claims : List (Option ℕ)
  pub stopped : Bool
  pub made : ℕ

-- the pass whose claim on the actor is out
abbrev pub claim_in : List (Option ℕ) → ℕ → Option ℕ
claim_in claims a = slice_index_or claims a None

-- of the event's actor, if it has one
abbrev pub claim_for : Event → List (Option ℕ) → Option ℕ
claim_for e claims = option_and_then (claim_in claims) (actor_of e)

-- the claims that are out, by rising actor, from the actor a on
abbrev pub listed : ℕ → List (Option ℕ) → List Claim
listed a [] = []
listed a (None ∷ claims) = listed (a + 1) claims
listed a (Some pass ∷ claims) = record { pass = pass; actor = a } ∷ listed (a + 1) claims

abbrev pub claims_in : Logged → List Claim
claims_in l = listed 0 l.claims

-- the plain hall with this run, this book and these claims, which answers as this one does
abbrev pub plain : Logged → HallValue
plain l = record {
  program = l.program;
  options = l.options;
  budget = l.budget;
  book = l.book;
  claims = claims_in l;
  stopped = l.stopped;
}

-- the state of the machine: the one to which the book leads
abbrev pub state_in : Logged → State
state_in l = hall_state (plain l)

-- why the event does not become an entry of the one who asks
abbrev pub entry_cause : Logged → Option ℕ → Event → Option Refuse
entry_cause l asker e = causes.entry_cause (plain l) asker e

-- why the claim is refused
abbrev pub claim_cause : Logged → ℕ → Option Refuse
claim_cause l a = causes.claim_cause (plain l) a

-- ---- items

-- before any item: one actor, nothing claimed
abbrev pub begins : Program → Options → ℕ → Logged
begins program options budget = record {
  program = program;
  options = options;
  budget = budget;
  book = [];
  claims = None ∷ [];
  stopped = false;
  made = 0;
}

-- one place more, where there are fewer than n
abbrev pub grown : ℕ → List (Option ℕ) → List (Option ℕ)
grown n claims = if nat_lt (length claims) n then claims ++ None ∷ [] else claims

-- no claim on the event's actor is out
abbrev pub released : Event → List (Option ℕ) → List (Option ℕ)
released e claims = option_map_or (λ a. slice_set claims a None) (actor_of e) claims

-- with the event as last entry; an actor that it makes gets a place for claims
abbrev pub entered : Event → Logged → Logged
entered e l = let after = record l { book = l.book ++ e ∷ [] } in
    record after { claims = grown (length (state_in after).actors) (released e l.claims) }

abbrev pub after : Logged → Item → Logged
after l (Claimed pass actor) = record l { claims = slice_set l.claims actor (Some pass) }
after l (Entered pass event) = entered event l
after l (Ended pass actor) = record l { claims = slice_set l.claims actor None }
after l (Stopped pass) = record l { stopped = true }
after l (Made pass) = record l { made = l.made + 1 }

-- the hall after a log
abbrev pub hall_from : Logged → List Item → Logged
hall_from l [] = l
hall_from l (i ∷ log) = hall_from (after l i) log

-- ---- whose items

-- the pass that made the item; of a pass that was split off, this pass itself
abbrev pub by : Item → ℕ
by (Claimed pass actor) = pass
by (Entered pass event) = pass
by (Ended pass actor) = pass
by (Stopped pass) = pass
by (Made pass) = pass

abbrev pub items_by : ℕ → List Item → List Item
items_by pass log = filter (λ i. by i == pass) log

-- ---- which items may follow

-- at most so many passes are split off
abbrev pub most_made : ℕ
most_made = 65535

-- the item may come next: a claim names an actor that has an enabled event and on which no claim is
-- out; an entry's event is enabled, within the budget, and of no actor on which another pass's claim is
-- out; a claim that ends is the pass's own; and a new pass has the next number. Each pass but the first
-- was split off before
abbrev pub MayFollow : Logged → Item → Type 0
MayFollow l (Claimed pass actor) = (pass ≤ l.made) × (claim_cause l actor ≡ None)
MayFollow l (Entered pass event) = (pass ≤ l.made) × (entry_cause l (Some pass) event ≡ None)
MayFollow l (Ended pass actor) = (pass ≤ l.made) × (claim_in l.claims actor ≡ Some pass)
MayFollow l (Stopped pass) = pass ≤ l.made
MayFollow l (Made pass) = (pass ≡ l.made + 1) × (pass ≤ most_made)

-- each item may follow those before it
abbrev pub Legal : Logged → List Item → Type 0
Legal l [] = ⊤
Legal l (i ∷ log) = MayFollow l i × Legal (after l i) log
