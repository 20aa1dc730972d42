-- The rule of a hall's log: of the hall under the turn, and of what passes know.
use Rattle.std.specs.Prelude.{ℕ, ◌≡◌, ◌==◌, ◌+◌, ◌<◌, ◌≤◌, min, List, [], ◌∷◌, ◌++◌, count_by, drop, length, sum_by, take}
use mathlib.Core.Option.{some}
use lib.ListN.{get_elem?}
use Rattle.orca_names.specs.declared.options.Options.{Options}
use Rattle.orca_names.specs.declared.trace.Trace.TheVariants.{Deep}
use Rattle.behaviour_code.specs.declared.code.Program.{Program}
use Rattle.turn_log.specs.declared.rule.Known.{Known}
use Rattle.seat_hall.specs.declared.item.Item.{Item}
use Rattle.seat_hall.specs.declared.item.Item.TheVariants.{Claimed, Entered, Ended, Stopped, Made}
use Rattle.seat_hall.specs.declared.item.PassView.{PassView}
use Rattle.seat_hall.specs.Halls.{HallView}
use Rattle.seat_hall.specs.Log.{Legal, Logged, MayFollow, after, begins, by, hall_from, items_by}

-- what a pass knows
abbrev pub Knower : Type 0
Knower = Known Item PassView

-- ---- what a pass knows beside the log

abbrev pub first_view : Program → Options → ℕ → PassView
first_view program options budget = record {
  program = program;
  options = options;
  budget = budget;
  numbers = 0 ∷ [];
}

-- a pass that another took in
abbrev pub spent_view : PassView
spent_view = record {
  program = record { kinds = []; names = [] };
  options = record { weight = 0; trace = Deep };
  budget = 0;
  numbers = [];
}

-- the hall of a log, as the pass reckons it
abbrev pub start_of : PassView → Logged
start_of v = begins v.program v.options v.budget

abbrev pub hall_of : PassView → List Item → Logged
hall_of v log = hall_from (start_of v) log

-- a pass that has a number may have a ticket
abbrev pub live : PassView → ℕ
live v = min 1 (length v.numbers)

-- without the turn, a pass has no number to give
abbrev pub Calm : PassView → Type 0
Calm v = length v.numbers ≤ 1

-- who wrote that a pass is split off has its number to give
abbrev pub after_item : Item → PassView → PassView
after_item (Claimed pass actor) v = v
after_item (Entered pass event) v = v
after_item (Ended pass actor) v = v
after_item (Stopped pass) v = v
after_item (Made pass) v = record v { numbers = v.numbers ++ pass ∷ [] }

-- a pass that is split keeps its own number, and the new one gets the other
abbrev pub keeps_own : PassView → PassView
keeps_own v = record v { numbers = take 1 v.numbers }

abbrev pub gets_other : PassView → PassView
gets_other v = record v { numbers = drop 1 v.numbers }

-- a pass that takes in another stays what it is
abbrev pub stays_itself : PassView → PassView → PassView
stays_itself v other = v

-- how many numbers a pass has, and how often this one is among them
abbrev pub numbers_of : Knower → ℕ
numbers_of k = length k.client.numbers

abbrev pub has_number : ℕ → Knower → ℕ
has_number n k = count_by (λ m. m == n) k.client.numbers

-- ---- the rule

-- a pass that has a number is of this run, and the log has no item by its numbers that it has not seen
pub record IsFair (program : Program) (options : Options) (budget : ℕ) (log : List Item)
    (k : Knower) : Type 0 where
  pub run : 0 < numbers_of k →
      (k.client.program ≡ program) × (k.client.options ≡ options) × (k.client.budget ≡ budget)
  pub own : (n : ℕ) → 0 < has_number n k → items_by n log ≡ items_by n k.seen

-- the hall under the turn is that of the log, each item of which may follow; numbers differ, and each
-- but 0 is that of a pass that was split off
pub record Fair (log : List Item) (hall : HallView) (passes : List Knower) : Type 0 where
  pub program : Program
  pub options : Options
  pub budget : ℕ
  pub heavy : 0 < options.weight
  pub shows : hall.logged ≡ hall_from (begins program options budget) log
  pub legal : Legal (begins program options budget) log
  pub each : (id : ℕ) (k : Knower) → get_elem? passes id ≡ some k → IsFair program options budget log k
  pub once : (n : ℕ) → sum_by (has_number n) passes ≤ 1
  pub given : (n : ℕ) → hall.logged.made < n → sum_by (has_number n) passes ≡ 0
  pub few : sum_by numbers_of passes ≤ hall.logged.made + 1

-- the rule of the log, which asks nothing of the words beside the hall
abbrev pub HallRule : List Item → HallView → List Knower → List ℕ → Type 0
HallRule log hall passes words = Fair log hall passes

-- what a pass with a number learns at its turn: the hall is that of the log, which has no items by its
-- numbers but those that it has seen
pub record Shown (k : Knower) (log : List Item) (hall : HallView) : Type 0 where
  pub shows : 0 < numbers_of k → hall.logged ≡ hall_of k.client log
  pub legal : 0 < numbers_of k → Legal (start_of k.client) log
  pub heavy : 0 < numbers_of k → 0 < k.client.options.weight
  pub own : (n : ℕ) → 0 < has_number n k → items_by n log ≡ items_by n k.seen
  pub given : (n : ℕ) → 0 < has_number n k → n ≤ hall.logged.made

-- ---- what a pass may write

-- an item of a pass's own call
abbrev pub IsOwn : ℕ → Item → Type 0
IsOwn pass (Claimed by actor) = by ≡ pass
IsOwn pass (Entered by event) = by ≡ pass
IsOwn pass (Ended by actor) = by ≡ pass
IsOwn pass (Stopped by) = by ≡ pass
IsOwn pass (Made by) = ⊥

-- the hall may follow what the pass knows by this item
pub record Follows (pass : ℕ) (i : Item) (k : Knower) (hall : HallView) : Type 0 where
  pub number : k.client.numbers ≡ pass ∷ []
  pub last : hall.last ≡ i
  pub may : MayFollow (hall_of k.client k.seen) i
  pub logged : hall.logged ≡ after (hall_of k.client k.seen) i

-- a call of the pass may leave the hall: its last item is the call's own
pub record MayLeave (pass : ℕ) (k : Knower) (hall : HallView) : Type 0 where
  pub own : IsOwn pass hall.last
  pub follows : Follows pass hall.last k hall
