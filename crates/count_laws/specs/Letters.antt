-- What increments and decrements name.
use Rattle.std.specs.Prelude.{ℕ, ◌<◌, ◌≤◌, ◌≡◌, List, map, ⊤}
use Rattle.std.specs.List.{AllByRecursion}
use Rattle.std.specs.List.Sorted.{IsStrictlySortedBy}
use Rattle.orca_names.specs.Names.{owner_of, thing_cmp, times_among}
use Rattle.orca_names.specs.declared.names.Thing.{Thing}
use Rattle.behaviour_code.specs.declared.code.Program.{Program}
use Rattle.event_rule.specs.declared.event.Event.{Event}
use Rattle.letter_kinds.specs.Counting.{Amount}
use Rattle.letter_kinds.specs.Letters.{Letter, App, Inc, Dec, Confirm}
use Rattle.machine_rules.specs.Actors.{Actors, Every}
use Rattle.event_rule.specs.Runs.{Goes}
use Rattle.machine_rules.specs.Next.{next}
use Rattle.machine_rules.specs.Options.{Options}
use Rattle.machine_rules.specs.Run.{IsRun}
use Rattle.machine_rules.specs.State.{State, first_state}

-- these are amounts for things of this actor alone, one for each, in the order of things
pub record AreFor (a : ℕ) (things : List Amount) : Type 0 where
  pub own : (x : Thing) → 0 < times_among x things → owner_of x ≡ a
  pub once : (x : Thing) → times_among x things ≤ 1
  pub rising : IsStrictlySortedBy thing_cmp (map (λ e. e.0) things)

-- an increment or a decrement that waits for this actor is for its own things
abbrev pub NamesOwn : ℕ → Letter → Type 0
NamesOwn a (App behaviour args load rows) = ⊤
NamesOwn a (Inc things) = AreFor a things
NamesOwn a (Dec things) = AreFor a things
NamesOwn a (Confirm token) = ⊤

-- so are all
abbrev pub LettersNameTheirOwn : Actors → Type 0
LettersNameTheirOwn actors = Every (λ a c mail. AllByRecursion (NamesOwn a) mail) actors

abbrev pub StartNamesOwn : Type 0
StartNamesOwn =
    (program : Program) (options : Options) → LettersNameTheirOwn (first_state program options).actors

abbrev pub EventsKeepNamesOwn : Type 0
EventsKeepNamesOwn =
    (s t : State) (e : Event) → next s e ≡ Goes t → LettersNameTheirOwn s.actors
    → LettersNameTheirOwn t.actors

abbrev pub RunsNameOwn : Type 0
RunsNameOwn =
    (program : Program) (options : Options) (book : List Event) (t : State)
    → IsRun program options book t → LettersNameTheirOwn t.actors
