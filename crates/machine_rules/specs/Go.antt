-- Go: an actor's frame runs up to its next act.
use Rattle.std.specs.Prelude.{ℕ, ◌+◌, ◌==◌, ◌&&◌, ◌||◌, not, nat_lt, filter, map, true, Bool, if◌then◌else◌, List, [], ◌∷◌, ◌++◌, length, set, Option, Some, None}
use Rattle.std.specs.List.{find}
use Rattle.std.specs.Option.{option_map_or}
use Rattle.orca_names.specs.Names.{owner_of}
use Rattle.orca_names.specs.declared.names.Thing.{Thing}
use Rattle.orca_names.specs.declared.names.Thing.TheVariants as things
use Rattle.orca_names.specs.declared.names.Value.{Value}
use Rattle.behaviour_code.specs.declared.code.Program.{Program}
use Rattle.turn_rules.specs.declared.act.Act.{Act}
use Rattle.turn_rules.specs.declared.act.Act.TheVariants.{Post, New, Print, End}
use Rattle.turn_rules.specs.declared.act.Frame.{Frame}
use Rattle.turn_rules.specs.Segment.{Setting, Stop, gets_of, segment_of}
use Rattle.reach_walk.specs.Marks.{in_order, load_of, load_roots, with_owners}
use Rattle.reach_walk.specs.Reach.{named_by}
use Rattle.letter_kinds.specs.Letters.{Letter, App, Inc}
use Rattle.letter_kinds.specs.Holdings.{Holdings, held_in, known_objects, row_of, with_made}
use Rattle.letter_kinds.specs.Counting.{Amount, Loaded, gain, lacking_of, mint_all, send, to_mint}
use Rattle.machine_rules.specs.Actors.{Actors, push_letter, seat}
use Rattle.machine_rules.specs.Cell.{Cell, fresh_cell, listed_objects, row_by, row_by_roots}
use Rattle.orca_names.specs.declared.trace.Trace.{Trace}
use Rattle.orca_names.specs.declared.trace.Trace.TheVariants.{Deep, Roots}
use Rattle.event_rule.specs.Runs.{Step, NotEnabled, IsFull, Goes}
use Rattle.plain_rules.specs.Machine.{stopped_at, with_name}
use Rattle.machine_rules.specs.State.{State}
use Rattle.orca_names.specs.declared.limits.TheConstants.{ACTORS_LIMIT}

-- what a turn reads, over the rows that the actor has
abbrev pub setting_of : Trace → Program → ℕ → Cell → Setting
setting_of trace program a c =
    record { program = program; me = a; base = c.holdings.next; rows = row_by trace a c }

-- what the frame does up to its next act
abbrev pub turn_of_cell : Trace → Program → ℕ → Cell → Frame → Stop
turn_of_cell trace program a c frame = segment_of (setting_of trace program a c) frame c.fields

-- the actor after a turn, with this frame
abbrev pub cell_after_turn : Stop → Option Frame → Bool → Cell → Cell
cell_after_turn stop frame dirty c =
    record c {
      fields = stop.turn.fields;
      frame = frame;
      dirty = dirty;
      holdings = with_made stop.turn.made c.holdings;
    }

-- what a letter counts: all that the arguments reach, as far as the actor knows; or what stands in
-- them, and the owners of that
abbrev pub load_from : Trace → ℕ → Holdings → List Value → List Loaded
load_from Deep me h args = load_of (row_of me h) (known_objects me h) args
load_from Roots me h args = load_roots args

-- the rows that come with it uncounted: none; or those that the arguments reach
abbrev pub rows_from : Trace → ℕ → Cell → List Value → List Loaded
rows_from Deep me c args = []
rows_from Roots me c args = load_of (row_by_roots me c) (listed_objects me c) args

-- what the actor lacks of a letter's load
abbrev pub lacking_from : Trace → ℕ → Holdings → List Value → List Loaded
lacking_from trace me h args = lacking_of me h (load_from trace me h args)

-- ---- what a turn gets

-- the thing is neither the actor's own nor held
abbrev pub lacks : ℕ → Holdings → Thing → Bool
lacks me h x = not (owner_of x == me) && (held_in h x == 0)

-- it or its owner is so
abbrev pub needs : ℕ → Holdings → Thing → Bool
needs me h x = lacks me h x || lacks me h (things.Actor (owner_of x))

-- the first thing that the turn gets from a row and that the actor needs; with deep tracing there
-- is none
abbrev pub needed : Trace → Program → ℕ → Cell → Frame → Option Thing
needed Deep program a c frame = None
needed Roots program a c frame =
    find (needs a c.holdings) (named_by (gets_of (setting_of Roots program a c) frame c.fields))

-- of the thing and its owner those that it lacks, with the amount by which the counts rise
abbrev pub to_need : ℕ → ℕ → Holdings → Thing → List Amount
to_need weight me h x = map (λ y. (y, weight)) (filter (lacks me h) (in_order (with_owners (x ∷ []))))

-- ---- the acts

-- a letter with its load goes to an actor
abbrev pub post : ℕ → Cell → List Letter → ℕ → ℕ → List Value → List Loaded → List Loaded → Actors
    → Actors
post a c mail to behaviour args load rows actors =
    push_letter to (App behaviour args load rows)
    (set actors a (seat (record c { holdings = send a load c.holdings }) mail))

-- the counts of these things rise, and an Inc tells their owner
abbrev pub mint : ℕ → Cell → List Letter → ℕ → List Amount → Actors → Actors
mint a c mail owner things actors =
    push_letter owner (Inc things)
    (set actors a (seat (record c { holdings = mint_all things c.holdings }) mail))

-- one actor more, which its maker holds with the weight
abbrev pub make : ℕ → ℕ → Cell → List Letter → Cell → Actors → Actors
make weight a c mail fresh actors =
    set actors a (seat (record c {
      holdings = gain weight (things.Actor (length actors)) None c.holdings;
    }) mail) ++ seat fresh [] ∷ []

-- the state after a turn that the actor keeps, with so many objects more
abbrev pub with_turn_kept : State → Stop → Actors → State
with_turn_kept s stop actors =
    record s { actors = actors; objects = s.objects + length stop.turn.made }

-- where the actor lacks what the letter loads, it mints for the first owner, and nothing of the turn
-- is kept; else the letter goes
abbrev pub post_or_mint : State → ℕ → Cell → Cell → List Letter → Stop → ℕ → ℕ → List Value
    → List Loaded → List Loaded → List Loaded → State
post_or_mint s a before after mail stop to behaviour args load rows [] =
    with_turn_kept s stop (post a after mail to behaviour args load rows s.actors)
post_or_mint s a before after mail stop to behaviour args load rows (e ∷ lacked) =
    record s {
      actors = mint a before mail (owner_of e.0)
          (to_mint s.options.weight (owner_of e.0) (e ∷ lacked)) s.actors;
    }

-- the state after what the turn does where it stops
abbrev pub done_by : Trace → State → ℕ → Cell → List Letter → Frame → Stop → Act → Step State
done_by trace s a c mail frame stop End =
    Goes (with_turn_kept s stop (set s.actors a (seat (cell_after_turn stop None true c) mail)))
done_by trace s a c mail frame stop (Print value) =
    Goes (record
    (with_turn_kept s stop
    (set s.actors a
    (seat (cell_after_turn stop (Some frame) c.dirty c) mail))) {
      prints = s.prints ++ value
          ∷ [];
    })
done_by trace s a c mail frame stop (New kind register) =
    if nat_lt (length s.actors) ACTORS_LIMIT
    then Goes
    (with_turn_kept s stop
    (make s.options.weight a
    (cell_after_turn stop (Some (with_name frame register (length s.actors))) c.dirty c) mail
    (fresh_cell s.options.weight s.program kind) s.actors))
    else IsFull
done_by trace s a c mail frame stop (Post to behaviour args) =
    let after = cell_after_turn stop (Some frame) c.dirty c in
    Goes (post_or_mint s a c after mail stop to behaviour args
    (load_from trace a after.holdings args) (rows_from trace a after args)
    (lacking_from trace a after.holdings args))

-- ---- the event

-- where the turn got a thing that the actor lacks, it mints for that first, and nothing of the turn
-- is kept
abbrev pub needing : State → ℕ → Cell → List Letter → Option Thing → Step State → Step State
needing s a c mail None step = step
needing s a c mail (Some x) step =
    Goes (record s {
      actors = mint a c mail (owner_of x) (to_need s.options.weight a c.holdings x) s.actors;
    })

abbrev pub turn_in : Trace → State → ℕ → Cell → List Letter → Frame → Step State
turn_in trace s a c mail frame =
    let stop = turn_of_cell trace s.program a c frame in
    needing s a c mail (needed trace s.program a c frame)
    (done_by trace s a c mail (stopped_at frame stop) stop stop.act)

-- the actor goes on in its frame
abbrev pub go : Trace → State → ℕ → Cell → List Letter → Step State
go trace s a c mail = option_map_or (turn_in trace s a c mail) c.frame NotEnabled
