-- Books that one worker writes: each event is the first that is enabled, up to where none is.
use Rattle.std.specs.Prelude.{◌≡◌, List, [], ◌∷◌, ◌++◌}
use Rattle.orca_names.specs.declared.names.Value.{Value}
use Rattle.orca_names.specs.declared.names.Value.TheVariants.{Num}
use Rattle.behaviour_code.specs.declared.code.Program.{Program}
use Rattle.event_rule.specs.declared.event.Event.{Event}
use Rattle.event_rule.specs.declared.event.Event.TheVariants.{Take, Go, Collect, Leave}
use Rattle.machine_examples.specs.Examples.{passes_an_object_on, usual}
use Rattle.machine_examples.specs.RootsExamples.{by_roots, from_the_mint, from_the_object, gets_an_object, holding_deep, is_held_by_its_own, up_to_the_object, up_to_the_turn}
use Rattle.machine_examples.specs.SmallExamples.{starts_nothing}
use Rattle.event_rule.specs.Runs.{IsQuiet, LeadsInOrder}
use Rattle.machine_rules.specs.Next.{next}
use Rattle.machine_rules.specs.Options.{Options}
use Rattle.machine_rules.specs.State.{State, first_state}

-- one worker's whole run of the program has this book, and prints this
pub record OneWorkerWrites (program : Program) (options : Options) (book : List Event)
    (prints : List Value) : Type 0 where
  pub last : State
  pub run : LeadsInOrder next (first_state program options) book last
  pub printed : last.prints ≡ prints
  pub quiet : IsQuiet next last

-- ---- the books

-- nothing is started
abbrev pub LeavesAtOnce : Type 0
LeavesAtOnce = OneWorkerWrites starts_nothing usual (Leave 0 ∷ []) []

-- the object is passed on; who had it leaves by itself
abbrev pub passing_in_order : List Event
passing_in_order =
    Take 0 ∷ Go 0 ∷ Go 0 ∷ Go 0 ∷ Go 0 ∷ Take 1 ∷ Go 1 ∷ Take 0 ∷ Go 1 ∷ Go 1 ∷
    Take 2 ∷ Go 2 ∷ Go 2 ∷ Collect 0 ∷ Take 1 ∷ Take 2 ∷ Collect 1 ∷ Take 0 ∷ Take 2 ∷
    Collect 0 ∷ Leave 1 ∷ Collect 2 ∷ Take 0 ∷ Collect 0 ∷ Leave 2 ∷ []

abbrev pub PassesOn : Type 0
PassesOn = OneWorkerWrites passes_an_object_on usual passing_in_order (Num 9 ∷ [])

-- the object is held by one that it names: with deep tracing, and with root-only tracing
abbrev pub HoldsDeep : Type 0
HoldsDeep = OneWorkerWrites is_held_by_its_own usual holding_deep []

abbrev pub HoldsByRoots : Type 0
HoldsByRoots = OneWorkerWrites is_held_by_its_own by_roots (up_to_the_object ++ from_the_object) []

-- an object is got from another
abbrev pub GetsByRoots : Type 0
GetsByRoots =
    OneWorkerWrites gets_an_object by_roots (up_to_the_turn ++ (Go 1 ∷ []) ++ from_the_mint)
    (Num 4 ∷ [])
