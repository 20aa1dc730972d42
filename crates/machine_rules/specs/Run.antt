-- Runs of the machine that collects, and the plain machine beside each.
use Rattle.std.specs.Prelude.{ℕ, ◌≡◌, ◌&&◌, is_none, Bool, true, false, if◌then◌else◌, List, [], ◌∷◌, Option, Some, None}
use Rattle.behaviour_code.specs.declared.code.Program.{Program}
use Rattle.turn_rules.specs.declared.act.Act.{Act}
use Rattle.turn_rules.specs.declared.act.Act.TheVariants.{Post, New, Print, End}
use Rattle.turn_rules.specs.declared.act.Frame.{Frame}
use Rattle.event_rule.specs.declared.event.Event.{Event}
use Rattle.event_rule.specs.declared.event.Event.TheVariants.{Take, Go, Collect, Leave, Block, Hear, Scan, Reap}
use Rattle.letter_kinds.specs.Letters.{Letter, App, Inc, Dec, Confirm}
use Rattle.letter_kinds.specs.Holdings.{Holdings, with_made}
use Rattle.machine_rules.specs.Actors.{Seat, seat_at}
use Rattle.machine_rules.specs.Cell.{Cell}
use Rattle.machine_rules.specs.Go.{lacking_from, needed, turn_of_cell}
use Rattle.plain_list.specs.Lists.{is_empty}
use Rattle.plain_rules.specs.Run.{plain_next}
use Rattle.event_rule.specs.Runs.{Step, NotEnabled, IsFull, Goes, Leads}
use Rattle.machine_rules.specs.Next.{next}
use Rattle.orca_names.specs.declared.trace.Trace.{Trace}
use Rattle.machine_rules.specs.Options.{Options}
use Rattle.plain_rules.specs.Machine.{PlainState, start_of}
use Rattle.machine_rules.specs.State.{State, first_state}

-- the book is a run of the program, and leads to t
abbrev pub IsRun : Program → Options → List Event → State → Type 0
IsRun program options book t = Leads next (first_state program options) book t

-- ---- choices: what the plain machine does too

-- the first letter is an application letter
abbrev pub starts_with_app : List Letter → Bool
starts_with_app [] = false
starts_with_app (App behaviour args load rows ∷ mail) = true
starts_with_app (Inc things ∷ mail) = false
starts_with_app (Dec things ∷ mail) = false
starts_with_app (Confirm token ∷ mail) = false

-- the act of a go that does not mint: the actor lacks nothing of what a letter loads
abbrev pub act_is_choice : Trace → ℕ → Holdings → Act → Bool
act_is_choice trace a h End = true
act_is_choice trace a h (Print value) = true
act_is_choice trace a h (New kind register) = true
act_is_choice trace a h (Post to behaviour args) = is_empty (lacking_from trace a h args)

abbrev pub go_is_choice : Trace → Program → ℕ → Cell → Option Frame → Bool
go_is_choice trace program a c None = false
go_is_choice trace program a c (Some frame) =
    let stop = turn_of_cell trace program a c frame in
    is_none (needed trace program a c frame)
    && act_is_choice trace a (with_made stop.turn.made c.holdings) stop.act

abbrev pub take_is_choice_at : Option Seat → Bool
take_is_choice_at None = false
take_is_choice_at (Some o) = starts_with_app o.mail

abbrev pub go_is_choice_at : Trace → Program → ℕ → Option Seat → Bool
go_is_choice_at trace program a None = false
go_is_choice_at trace program a (Some o) = go_is_choice trace program a o.cell o.cell.frame

-- takes of application letters, and goes that do not mint
abbrev pub is_choice : State → Event → Bool
is_choice s (Take a) = take_is_choice_at (seat_at s.actors a)
is_choice s (Go a) = go_is_choice_at s.options.trace s.program a (seat_at s.actors a)
is_choice s (Collect a) = false
is_choice s (Leave a) = false
is_choice s (Block a) = false
is_choice s Hear = false
is_choice s Scan = false
is_choice s (Reap token) = false

abbrev pub choices_after : (State → List Event) → Step State → List Event
choices_after later NotEnabled = []
choices_after later IsFull = []
choices_after later (Goes t) = later t

-- the choices of a book, from a state on
abbrev pub choices : List Event → State → List Event
choices [] s = []
choices (e ∷ book) s =
    if is_choice s e then e ∷ choices_after (choices book) (next s e)
    else choices_after (choices book) (next s e)

-- ---- the plain machine beside a run

-- p is the state of the machine that frees nothing, after the choices of the book
abbrev pub IsPlainBeside : Program → Options → List Event → PlainState → Type 0
IsPlainBeside program options book p =
    Leads plain_next (start_of program) (choices book (first_state program options)) p

-- the plain machine makes a choice too, and stays at any other event
abbrev pub PlainFollows : Bool → PlainState → Event → PlainState → Type 0
PlainFollows true p e q = plain_next p e ≡ Goes q
PlainFollows false p e q = p ≡ q
