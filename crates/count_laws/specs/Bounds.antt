-- How large the counts can get, and how many tokens are opened.
use Rattle.std.specs.Prelude.{ℕ, suc, ◌+◌, ◌*◌, ◌<◌, ◌≤◌, ◌≡◌, List, length}
use Rattle.orca_names.specs.declared.names.Thing.{Thing}
use Rattle.behaviour_code.specs.declared.code.Program.{Program}
use Rattle.event_rule.specs.declared.event.Event.{Event}
use Rattle.machine_rules.specs.Actors.{Actors}
use Rattle.machine_rules.specs.Balance.{incs_at, own_at, owner_seat}
use Rattle.event_rule.specs.Runs.{Goes}
use Rattle.machine_rules.specs.Next.{next}
use Rattle.machine_rules.specs.Options.{Options}
use Rattle.machine_rules.specs.Run.{IsRun}
use Rattle.machine_rules.specs.State.{State}
use Rattle.orca_names.specs.declared.limits.TheConstants.{ACTORS_LIMIT}

-- what the owner counts of a thing, with the increments under way
abbrev pub owner_count : Thing → Actors → ℕ
owner_count x actors = own_at x (owner_seat actors x) + incs_at x (owner_seat actors x)

-- an event raises this by the weight at most, whatever the thing
abbrev pub EventsRaiseByTheWeight : Type 0
EventsRaiseByTheWeight =
    (s t : State) (e : Event) → 0 < s.options.weight → next s e ≡ Goes t → (x : Thing)
    → owner_count x t.actors ≤ owner_count x s.actors + s.options.weight

-- so after a run it is the weight at most, for each event
abbrev pub RunsCountByTheWeight : Type 0
RunsCountByTheWeight =
    (program : Program) (options : Options) → 0 < options.weight → (book : List Event) (t : State)
    → IsRun program options book t →
    (x : Thing) → owner_count x t.actors ≤ length book * options.weight

-- an event opens one token at most
abbrev pub EventsOpenOneToken : Type 0
EventsOpenOneToken =
    (s t : State) (e : Event) → next s e ≡ Goes t → t.detector.opened ≤ suc s.detector.opened

-- so no more were opened than there were events
abbrev pub RunsOpenNoMoreTokens : Type 0
RunsOpenNoMoreTokens =
    (program : Program) (options : Options) (book : List Event) (t : State)
    → IsRun program options book t → t.detector.opened ≤ length book

-- no more than 65,536 actors are made
abbrev pub RunsMakeFewActors : Type 0
RunsMakeFewActors =
    (program : Program) (options : Options) (book : List Event) (t : State)
    → IsRun program options book t → length t.actors ≤ ACTORS_LIMIT
