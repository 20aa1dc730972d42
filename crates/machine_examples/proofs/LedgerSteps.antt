-- The machine on ledgers leads where the machine leads.
use Rattle.std.proofs.Common.{◌≡◌, ◌≢◌, ℕ, ◌+◌, Bool, true, false, if◌then◌else◌, List, [], ◌∷◌, ◌++◌, length, set, nat_lt, Option, Some, None, refl, ap, sym, ◌∙◌, subst}
use Rattle.std.proofs.lemmas.List.{length-map, map-append}
use Rattle.std.specs.List.{find, list_any}
use Rattle.std.specs.Option.{option_map_or}
use Rattle.orca_names.specs.Names.{is_thing, owner_of}
use Rattle.orca_names.specs.declared.names.ObjName.{ObjName}
use Rattle.orca_names.specs.declared.names.Thing.{Thing}
use Rattle.orca_names.specs.declared.names.Thing.TheVariants as things
use Rattle.orca_names.specs.declared.names.Value.{Value}
use Rattle.behaviour_code.specs.declared.code.Program.{Program}
use Rattle.event_rule.specs.declared.event.Event.{Event}
use Rattle.event_rule.specs.declared.event.Event.TheVariants.{Take, Go, Collect, Leave, Block, Hear, Scan, Reap}
use Rattle.reach_walk.specs.Marks.{load_of, load_roots, marks_of}
use Rattle.reach_walk.specs.Reach.{named_by}
use Rattle.turn_rules.specs.Segment.{Setting, Stop, gets_of, segment_of}
use Rattle.turn_rules.specs.declared.act.Act.{Act}
use Rattle.turn_rules.specs.declared.act.Act.TheVariants.{Post, New, Print, End}
use Rattle.turn_rules.specs.declared.act.Frame.{Frame}
use Rattle.letter_kinds.specs.Counting.{Amount, Loaded, by_owner, gain, lacking_of, to_mint}
use Rattle.letter_kinds.specs.Holdings.{Row}
use Rattle.letter_kinds.specs.Letters.{Letter, App, Inc, Dec, Confirm}
use Rattle.letter_kinds.specs.declared.note.Note.TheVariants as notes
use Rattle.machine_examples.proofs.Brought.{Brought, cell_with, learn_told, learn-told, listed_told, listed-told, marked_by_roots_told, marked_by_roots-told, need_told, need-told, needs_told, needs-told, row_brought, row_brought-told, used_told, used-told}
use Rattle.machine_examples.proofs.Ledgers.{Ledger, told, empty_ledger, row_told, row_of-told, objects_told, known_objects-told, actors_told, held_actors-told, change_held, set_held-told, take_load, receive-told, give_load, send-told, raise_told, raise_all-told, lower_told, lower_all-told, mint_told, mint_all-told, lacking_told, lacking-told, make_told, with_made-told, sweep_told, sweep-told, back_told, given_back-told}
use Rattle.machine_rules.specs.Actors.{push_decs, push_letter, seat, seat_at}
use Rattle.machine_rules.specs.Cell.{Cell, fresh_cell, row_by}
use Rattle.machine_rules.specs.Collect.{after_collect, is_marked, is_marked_deep, without_unused, collect}
use Rattle.machine_rules.specs.Detect.{acked_token}
use Rattle.machine_rules.specs.Go.{done_by, load_from, needed, needing, mint, post_or_mint, rows_from, setting_of, turn_of_cell, cell_after_turn, go, turn_in}
use Rattle.event_rule.specs.Runs.{Leads, Step, IsFull, Goes, NotEnabled}
use Rattle.machine_rules.specs.Next.{next, acting}
use Rattle.orca_names.specs.declared.trace.Trace.{Trace}
use Rattle.orca_names.specs.declared.trace.Trace.TheVariants.{Deep, Roots}
use Rattle.plain_rules.specs.Machine.{stopped_at, with_name}
use Rattle.machine_rules.specs.State.{State}
use Rattle.machine_rules.specs.Take.{cell_after, note_of, notes_after, take}
use Rattle.machine_examples.proofs.Places.{Place, Places, seats_told, cell_told, seat_told, place, place_at, seat_at-told, set-told, push_told, push_letter-told, decs_told, push_decs-told}
use Rattle.machine_rules.specs.Guards.{may_block, may_collect, may_go, may_leave, may_take}
use Rattle.machine_rules.specs.Block.{block}
use Rattle.machine_rules.specs.Leave.{leave}
use Rattle.std.specs.Prelude.{if◌then◌else◌}
use Rattle.machine_examples.proofs.Pages.{Follows, Page, state_told, traced}
use Rattle.machine_examples.proofs.DetectorSteps.{hear-follows, heard_in, reap-follows, reaped-told, reaped_in, reaped_told, scan-follows, scanned_in}

-- ---- take

-- after the letter was taken
abbrev ledger_after : ℕ → Letter → Ledger → Ledger
ledger_after me (App behaviour args load rows) l = take_load me load l
ledger_after me (Inc things) l = raise_told me things l
ledger_after me (Dec things) l = lower_told me things l
ledger_after me (Confirm token) l = l

abbrev brought_after : ℕ → Letter → Brought → Brought
brought_after me (App behaviour args load rows) known = learn_told me rows known
brought_after me (Inc things) known = known
brought_after me (Dec things) known = known
brought_after me (Confirm token) known = known

-- the actor after the letter was taken, with this mail
abbrev place_after : Program → ℕ → Letter → Place → List Letter → Option Place
place_after program a letter o mail = place (cell_after program a letter o.cell) (ledger_after a letter o.ledger) (brought_after a letter o.known) mail

-- after a take
abbrev taken_in : Page → ℕ → Place → List Letter → Option Page
taken_in b a o [] = None
taken_in b a o (letter ∷ mail) = Some (record {
  state = record b.state { notes = notes_after o.cell.reported (note_of a letter) b.state.notes };
  places = set b.places a (place_after b.state.program a letter o mail);
})

after_letter-told : (program : Program) (a : ℕ) (letter : Letter) (o : Place) (mail : List Letter)
    → seat (cell_after program a letter (cell_told o)) mail ≡ seat_told (place_after program a letter o mail)
after_letter-told program a (App behaviour args load rows) o mail =
    λ i. seat (record (cell_after program a (App behaviour args load rows) o.cell) { holdings = receive-told a load o.ledger i; known = learn-told a rows o.known i }) mail
after_letter-told program a (Inc things) o mail = ap (λ h. seat (record (cell_after program a (Inc things) (cell_told o)) { holdings = h }) mail) (raise_all-told a things o.ledger)
after_letter-told program a (Dec things) o mail = ap (λ h. seat (record (cell_after program a (Dec things) (cell_told o)) { holdings = h }) mail) (lower_all-told a things o.ledger)
after_letter-told program a (Confirm token) o mail = refl

take-follows : (b : Page) (a : ℕ) (o : Place) (mail : List Letter) → Follows (taken_in b a o mail) (take (state_told b) a (cell_told o) mail)
take-follows b a o [] = tt
take-follows b a o (letter ∷ mail) =
    ap (λ actors. Goes (record (state_told b) { actors = actors; notes = notes_after o.cell.reported (note_of a letter) b.state.notes }))
    (set-told b.places a _ (place_after b.state.program a letter o mail) (after_letter-told b.state.program a letter o mail))

-- ---- go

-- the rows that it has
abbrev rows_told : Trace → ℕ → Place → ObjName → Option Row
rows_told Deep a o = row_told a o.ledger
rows_told Roots a o = row_brought a o.ledger o.known

rows-told : (trace : Trace) (a : ℕ) (o : Place) (n : ObjName) → row_by trace a (cell_told o) n ≡ rows_told trace a o n
rows-told Deep a o n = row_of-told a o.ledger n
rows-told Roots a o n = row_brought-told a o.cell o.ledger o.known n

abbrev setting_told : Trace → Program → ℕ → Place → Setting
setting_told trace program a o = record { program = program; me = a; base = o.ledger.next; rows = rows_told trace a o }

setting-told : (trace : Trace) (program : Program) (a : ℕ) (o : Place) → setting_of trace program a (cell_told o) ≡ setting_told trace program a o
setting-told trace program a o i = record { program = program; me = a; base = o.ledger.next; rows = λ n. rows-told trace a o n i }

-- what the frame does up to its next act
abbrev turn_told : Trace → Program → ℕ → Place → Frame → Stop
turn_told trace program a o frame = segment_of (setting_told trace program a o) frame o.cell.fields

turn-told : (trace : Trace) (program : Program) (a : ℕ) (o : Place) (frame : Frame) → turn_of_cell trace program a (cell_told o) frame ≡ turn_told trace program a o frame
turn-told trace program a o frame i = segment_of (setting-told trace program a o i) frame o.cell.fields

-- the first thing that it gets and needs
abbrev needed_told : Trace → Program → ℕ → Place → Frame → Option Thing
needed_told Deep program a o frame = None
needed_told Roots program a o frame = find (needs_told a o.ledger) (named_by (gets_of (setting_told Roots program a o) frame o.cell.fields))

needed-told : (trace : Trace) (program : Program) (a : ℕ) (o : Place) (frame : Frame) → needed trace program a (cell_told o) frame ≡ needed_told trace program a o frame
needed-told Deep program a o frame = refl
needed-told Roots program a o frame = λ i. find (λ x. needs-told a o.ledger x i) (named_by (gets_of (setting-told Roots program a o i) frame o.cell.fields))

-- the actor after a turn
abbrev place_turned : Stop → Option Frame → Bool → Place → Place
place_turned stop frame dirty o = record o { cell = cell_after_turn stop frame dirty o.cell; ledger = make_told stop.turn.made o.ledger }

turned-told : (stop : Stop) (frame : Option Frame) (dirty : Bool) (o : Place) → cell_after_turn stop frame dirty (cell_told o) ≡ cell_told (place_turned stop frame dirty o)
turned-told stop frame dirty o = ap (λ h. record (cell_after_turn stop frame dirty (cell_told o)) { holdings = h }) (with_made-told stop.turn.made o.ledger)

-- what a letter counts
abbrev load_told : Trace → ℕ → Ledger → List Value → List Loaded
load_told Deep me l args = load_of (row_told me l) (objects_told me l) args
load_told Roots me l args = load_roots args

load_from-told : (trace : Trace) (me : ℕ) (l : Ledger) (args : List Value) → load_from trace me (told l) args ≡ load_told trace me l args
load_from-told Deep me l args = λ i. load_of (λ n. row_of-told me l n i) (known_objects-told me l i) args
load_from-told Roots me l args = refl

-- and the rows that it brings
abbrev rows_sent : Trace → ℕ → Place → List Value → List Loaded
rows_sent Deep a o args = []
rows_sent Roots a o args = load_of (row_brought a o.ledger o.known) (listed_told a o.ledger o.known) args

rows_from-told : (trace : Trace) (a : ℕ) (o : Place) (args : List Value) → rows_from trace a (cell_told o) args ≡ rows_sent trace a o args
rows_from-told Deep a o args = refl
rows_from-told Roots a o args = λ i. load_of (λ n. row_brought-told a o.cell o.ledger o.known n i) (listed-told a o.cell o.ledger o.known i) args

-- the page after a turn that the actor keeps
abbrev with_turn_told : Page → Stop → Places → Page
with_turn_told b stop places = record { state = record b.state { objects = b.state.objects + length stop.turn.made }; places = places }

-- there is more of these things
abbrev minted_told : ℕ → Place → ℕ → List Amount → Places → Places
minted_told a o owner things places = push_told owner (Inc things) (set places a (place o.cell (mint_told things o.ledger) o.known o.mail))

mint-told : (a : ℕ) (o : Place) (owner : ℕ) (things : List Amount) (places : Places)
    → mint a (cell_told o) o.mail owner things (seats_told places) ≡ seats_told (minted_told a o owner things places)
mint-told a o owner things places =
    ap (push_letter owner (Inc things))
    (set-told places a _ (place o.cell (mint_told things o.ledger) o.known o.mail)
    (ap (λ h. seat (record (cell_told o) { holdings = h }) o.mail) (mint_all-told things o.ledger)))
    ∙ push_letter-told owner (Inc things) _

-- the letter goes, or there is more of what lacks
abbrev post_or_mint_told : Page → ℕ → Place → Place → Stop → ℕ → ℕ → List Value → List Loaded → List Loaded → List Loaded → Page
post_or_mint_told b a before after stop to behaviour args load rows [] =
    with_turn_told b stop (push_told to (App behaviour args load rows) (set b.places a (place after.cell (give_load a load after.ledger) after.known after.mail)))
post_or_mint_told b a before after stop to behaviour args load rows (e ∷ lacked) =
    record b { places = minted_told a before (owner_of e.0) (to_mint b.state.options.weight (owner_of e.0) (e ∷ lacked)) b.places }

post-told : (b : Page) (a : ℕ) (before after : Place) (stop : Stop) (to behaviour : ℕ) (args : List Value) (load rows lacked : List Loaded) → after.mail ≡ before.mail
    → post_or_mint (state_told b) a (cell_told before) (cell_told after) before.mail stop to behaviour args load rows lacked
    ≡ state_told (post_or_mint_told b a before after stop to behaviour args load rows lacked)
post-told b a before after stop to behaviour args load rows [] same =
    ap (λ actors. record (state_told b) { actors = actors; objects = b.state.objects + length stop.turn.made })
    (ap (push_letter to (App behaviour args load rows))
    (set-told b.places a _ (place after.cell (give_load a load after.ledger) after.known after.mail)
    (λ i. seat (record (cell_told after) { holdings = send-told a load after.ledger i }) (sym same i)))
    ∙ push_letter-told to (App behaviour args load rows) _)
post-told b a before after stop to behaviour args load rows (e ∷ lacked) same =
    ap (λ actors. record (state_told b) { actors = actors }) (mint-told a before (owner_of e.0) (to_mint b.state.options.weight (owner_of e.0) (e ∷ lacked)) b.places)

-- after the act of a turn
abbrev acted : Page → ℕ → Place → Frame → Stop → Act → Option Page
acted b a o frame stop End = Some (with_turn_told b stop (set b.places a (Some (place_turned stop None true o))))
acted b a o frame stop (Print value) =
    Some (record {
      state = record b.state { objects = b.state.objects + length stop.turn.made; prints = b.state.prints ++ value ∷ [] };
      places = set b.places a (Some (place_turned stop (Some frame) o.cell.dirty o));
    })
acted b a o frame stop (New kind register) =
    let after = place_turned stop (Some (with_name frame register (length b.places))) o.cell.dirty o in
    if nat_lt (length b.places) 65536
    then Some (with_turn_told b stop
    (set b.places a (place after.cell (change_held (λ n. n + b.state.options.weight) (things.Actor (length b.places)) None after.ledger) o.known o.mail)
    ++ place (fresh_cell b.state.options.weight b.state.program kind) (empty_ledger b.state.options.weight) [] [] ∷ []))
    else None
acted b a o frame stop (Post to behaviour args) =
    let after = place_turned stop (Some frame) o.cell.dirty o in
    let load = load_told (traced b) a after.ledger args in
    Some (post_or_mint_told b a o after stop to behaviour args load (rows_sent (traced b) a after args) (lacking_told a after.ledger load))

act-follows : (b : Page) (a : ℕ) (o : Place) (frame : Frame) (stop : Stop) (act : Act)
    → Follows (acted b a o frame stop act) (done_by (traced b) (state_told b) a (cell_told o) o.mail frame stop act)
act-follows b a o frame stop End =
    ap (λ actors. Goes (record (state_told b) { actors = actors; objects = b.state.objects + length stop.turn.made }))
    (set-told b.places a _ (Some (place_turned stop None true o)) (ap (λ c. seat c o.mail) (turned-told stop None true o)))
act-follows b a o frame stop (Print value) =
    ap (λ actors. Goes (record (state_told b) { actors = actors; objects = b.state.objects + length stop.turn.made; prints = b.state.prints ++ value ∷ [] }))
    (set-told b.places a _ (Some (place_turned stop (Some frame) o.cell.dirty o)) (ap (λ c. seat c o.mail) (turned-told stop (Some frame) o.cell.dirty o)))
act-follows b a o frame stop (New kind register) =
    subst (λ n. Follows (acted b a o frame stop (New kind register)) (made n)) (sym (length-map b.places seat_told)) (cases (nat_lt (length b.places) 65536))
  where
    -- as many actors as this were made before
    made : ℕ → Step State
    made n =
        if nat_lt n 65536
        then Goes (record (state_told b) {
          actors = set (seats_told b.places) a
              (seat (record (cell_after_turn stop (Some (with_name frame register n)) o.cell.dirty (cell_told o)) {
                holdings = gain b.state.options.weight (things.Actor n) None (cell_after_turn stop (Some (with_name frame register n)) o.cell.dirty (cell_told o)).holdings;
              }) o.mail)
              ++ seat (fresh_cell b.state.options.weight b.state.program kind) [] ∷ [];
          objects = b.state.objects + length stop.turn.made;
        })
        else IsFull

    after : Place
    after = place_turned stop (Some (with_name frame register (length b.places))) o.cell.dirty o

    maker : Option Place
    maker = place after.cell (change_held (λ n. n + b.state.options.weight) (things.Actor (length b.places)) None after.ledger) o.known o.mail

    fresh : Option Place
    fresh = place (fresh_cell b.state.options.weight b.state.program kind) (empty_ledger b.state.options.weight) [] []

    before : Cell
    before = cell_after_turn stop (Some (with_name frame register (length b.places))) o.cell.dirty (cell_told o)

    goes : Goes (record (state_told b) {
      actors = set (seats_told b.places) a (seat (record before { holdings = gain b.state.options.weight (things.Actor (length b.places)) None before.holdings }) o.mail)
          ++ seat (fresh_cell b.state.options.weight b.state.program kind) [] ∷ [];
      objects = b.state.objects + length stop.turn.made;
    }) ≡ Goes (state_told (with_turn_told b stop (set b.places a maker ++ fresh ∷ [])))
    goes =
        ap (λ actors. Goes (record (state_told b) { actors = actors; objects = b.state.objects + length stop.turn.made }))
        (ap (λ actors. actors ++ seat (fresh_cell b.state.options.weight b.state.program kind) [] ∷ [])
        (set-told b.places a _ maker
        (ap (λ h. seat (record (cell_told after) { holdings = gain b.state.options.weight (things.Actor (length b.places)) None h }) o.mail) (with_made-told stop.turn.made o.ledger)
        ∙ ap (λ h. seat (record (cell_told after) { holdings = h }) o.mail) (set_held-told (λ n. n + b.state.options.weight) (things.Actor (length b.places)) None after.ledger)))
        ∙ sym (map-append seat_told (set b.places a maker) (fresh ∷ [])))

    cases : (room : Bool) → Follows (if room then Some (with_turn_told b stop (set b.places a maker ++ fresh ∷ [])) else None)
        (if room then Goes (record (state_told b) {
          actors = set (seats_told b.places) a (seat (record before { holdings = gain b.state.options.weight (things.Actor (length b.places)) None before.holdings }) o.mail)
              ++ seat (fresh_cell b.state.options.weight b.state.program kind) [] ∷ [];
          objects = b.state.objects + length stop.turn.made;
        }) else IsFull)
    cases true = goes
    cases false = tt
act-follows b a o frame stop (Post to behaviour args) =
    ap Goes (posted ∙ post-told b a o after stop to behaviour args load (rows_sent (traced b) a after args) (lacking_told a after.ledger load) refl)
  where
    after : Place
    after = place_turned stop (Some frame) o.cell.dirty o

    load : List Loaded
    load = load_told (traced b) a after.ledger args

    with_load : Cell → List Loaded → List Loaded → State
    with_load c load rows = post_or_mint (state_told b) a (cell_told o) c o.mail stop to behaviour args load rows (lacking_of a c.holdings load)

    posted : with_load (cell_after_turn stop (Some frame) o.cell.dirty (cell_told o)) (load_from (traced b) a (cell_after_turn stop (Some frame) o.cell.dirty (cell_told o)).holdings args)
        (rows_from (traced b) a (cell_after_turn stop (Some frame) o.cell.dirty (cell_told o)) args)
        ≡ post_or_mint (state_told b) a (cell_told o) (cell_told after) o.mail stop to behaviour args load (rows_sent (traced b) a after args) (lacking_told a after.ledger load)
    posted =
        ap (λ c. with_load c (load_from (traced b) a c.holdings args) (rows_from (traced b) a c args)) (turned-told stop (Some frame) o.cell.dirty o)
        ∙ (λ i. with_load (cell_told after) (load_from-told (traced b) a after.ledger args i) (rows_from-told (traced b) a after args i))
        ∙ ap (post_or_mint (state_told b) a (cell_told o) (cell_told after) o.mail stop to behaviour args load (rows_sent (traced b) a after args)) (lacking-told a after.ledger load)

-- there is more of what the turn gets and needs, or the turn is kept
abbrev needing_told : Page → ℕ → Place → Option Thing → Option Page → Option Page
needing_told b a o None page = page
needing_told b a o (Some x) page = Some (record b { places = minted_told a o (owner_of x) (need_told b.state.options.weight a o.ledger x) b.places })

need-follows : (b : Page) (a : ℕ) (o : Place) (found : Option Thing) (page : Option Page) (step : Step State) → Follows page step
    → Follows (needing_told b a o found page) (needing (state_told b) a (cell_told o) o.mail found step)
need-follows b a o None page step follows = follows
need-follows b a o (Some x) page step follows =
    ap (λ actors. Goes (record (state_told b) { actors = actors }))
    (ap (λ things. mint a (cell_told o) o.mail (owner_of x) things (seats_told b.places)) (need-told b.state.options.weight a o.ledger x)
    ∙ mint-told a o (owner_of x) (need_told b.state.options.weight a o.ledger x) b.places)

-- after a go
abbrev gone_in : Page → ℕ → Place → Option Frame → Option Page
gone_in b a o None = None
gone_in b a o (Some frame) =
    let stop = turn_told (traced b) b.state.program a o frame in
    needing_told b a o (needed_told (traced b) b.state.program a o frame) (acted b a o (stopped_at frame stop) stop stop.act)

go-follows : (b : Page) (a : ℕ) (o : Place) (frame : Option Frame)
    → Follows (gone_in b a o frame) (option_map_or (turn_in (traced b) (state_told b) a (cell_told o) o.mail) frame NotEnabled)
go-follows b a o None = tt
go-follows b a o (Some frame) =
    let stop = turn_told (traced b) b.state.program a o frame in
    let found = needed_told (traced b) b.state.program a o frame in
    let page = acted b a o (stopped_at frame stop) stop stop.act in
    subst (λ (s : Stop). Follows (needing_told b a o found page)
    (needing (state_told b) a (cell_told o) o.mail (needed (traced b) b.state.program a (cell_told o) frame) (done_by (traced b) (state_told b) a (cell_told o) o.mail (stopped_at frame s) s s.act)))
    (sym (turn-told (traced b) b.state.program a o frame))
    (subst (λ (f : Option Thing). Follows (needing_told b a o found page)
    (needing (state_told b) a (cell_told o) o.mail f (done_by (traced b) (state_told b) a (cell_told o) o.mail (stopped_at frame stop) stop stop.act)))
    (sym (needed-told (traced b) b.state.program a o frame))
    (need-follows b a o found page _ (act-follows b a o (stopped_at frame stop) stop stop.act)))

-- ---- collect

-- what is marked
abbrev marked_told : Trace → ℕ → Place → Thing → Bool
marked_told Deep a o x = list_any (is_thing x) (marks_of (row_told a o.ledger) (objects_told a o.ledger) o.cell.fields.values)
marked_told Roots a o x = marked_by_roots_told a o.cell o.ledger o.known x

is_marked-told : (trace : Trace) (a : ℕ) (o : Place) → is_marked trace a (cell_told o) ≡ marked_told trace a o
unfolding is_marked_deep
is_marked-told Deep a o = λ i x. list_any (is_thing x) (marks_of (λ n. row_of-told a o.ledger n i) (known_objects-told a o.ledger i) o.cell.fields.values)
is_marked-told Roots a o = marked_by_roots-told a o.cell o.ledger o.known

-- the rows that letters brought and that stay
abbrev kept_told : Trace → ℕ → Place → Brought
kept_told Deep a o = o.known
kept_told Roots a o = used_told a o.cell o.ledger o.known

kept-told : (trace : Trace) (a : ℕ) (o : Place) → without_unused trace a (cell_told o) ≡ cell_with o.cell o.ledger (kept_told trace a o)
kept-told Deep a o = refl
kept-told Roots a o = used-told a o.cell o.ledger o.known

-- the actor without what is not marked
abbrev place_swept : Trace → ℕ → Place → Place
place_swept trace a o = record { cell = record o.cell { dirty = false }; ledger = sweep_told (marked_told trace a o) a o.ledger; known = kept_told trace a o; mail = o.mail }

-- and to each owner a Dec with what was held
abbrev places_collected : Trace → ℕ → Place → Places → Places
places_collected trace a o places = decs_told (by_owner (back_told (marked_told trace a o) o.ledger)) (set places a (Some (place_swept trace a o)))

collected-told : (trace : Trace) (a : ℕ) (o : Place) (places : Places)
    → after_collect (is_marked trace a (cell_told o)) a (without_unused trace a (cell_told o)) o.mail (seats_told places) ≡ seats_told (places_collected trace a o places)
collected-told trace a o places =
    (λ i. after_collect (is_marked-told trace a o i) a (kept-told trace a o i) o.mail (seats_told places))
    ∙ (λ i. push_decs (by_owner (given_back-told (marked_told trace a o) o.ledger i))
    (set-told places a _ (Some (place_swept trace a o))
    (ap (λ h. seat (record (cell_with o.cell o.ledger (kept_told trace a o)) { holdings = h; dirty = false }) o.mail) (sweep-told (marked_told trace a o) a o.ledger)) i))
    ∙ push_decs-told (by_owner (back_told (marked_told trace a o) o.ledger)) (set places a (Some (place_swept trace a o)))

-- after a collection
abbrev collected_in : Page → ℕ → Place → Page
collected_in b a o = record b { places = places_collected (traced b) a o b.places }

collect-follows : (b : Page) (a : ℕ) (o : Place) → Follows (Some (collected_in b a o)) (collect (traced b) (state_told b) a (cell_told o) o.mail)
collect-follows b a o = ap (λ actors. Goes (record (state_told b) { actors = actors })) (collected-told (traced b) a o b.places)

-- ---- block

-- after a report
abbrev blocked_in : Page → ℕ → Place → Page
blocked_in b a o = record {
  state = record b.state { notes = b.state.notes ++ notes.Block a o.ledger.count (actors_told o.ledger) ∷ [] };
  places = set b.places a (place (record o.cell { reported = true }) o.ledger o.known o.mail);
}

block-follows : (b : Page) (a : ℕ) (o : Place) → Follows (Some (blocked_in b a o)) (block (state_told b) a (cell_told o) o.mail)
block-follows b a o = λ i. Goes (record (state_told b) {
  actors = set-told b.places a _ (place (record o.cell { reported = true }) o.ledger o.known o.mail) refl i;
  notes = b.state.notes ++ notes.Block a o.ledger.count (held_actors-told o.ledger i) ∷ [];
})

-- ---- an event of an actor

-- what the actor at the place does, if it is present and may
abbrev acting_told : (Cell → List Letter → Bool) → (Place → Option Page) → Option Place → Option Page
acting_told may does None = None
acting_told may does (Some o) = if may (cell_told o) o.mail then does o else None

-- an event of an actor follows where it follows of each place
acting-follows : (b : Page) (a : ℕ) (may : Cell → List Letter → Bool) (does : Place → Option Page) (act : Cell → List Letter → Step State)
    → ((o : Place) → Follows (does o) (act (cell_told o) o.mail)) → Follows (acting_told may does (place_at b.places a)) (acting may act (seat_at (seats_told b.places) a))
acting-follows b a may does act follows =
    subst (λ o. Follows (acting_told may does (place_at b.places a)) (acting may act o)) (sym (seat_at-told b.places a)) (cases (place_at b.places a))
  where
    by_test : (o : Place) (q : Bool) → Follows (if q then does o else None) (if q then act (cell_told o) o.mail else NotEnabled)
    by_test o false = tt
    by_test o true = follows o

    cases : (o : Option Place) → Follows (acting_told may does o) (acting may act (seat_told o))
    cases None = tt
    cases (Some o) = by_test o (may (cell_told o) o.mail)

-- ---- leave

-- after a leave
abbrev left_in : Page → ℕ → Page
left_in b a = record b { places = reaped_told (a ∷ []) b.places }

leave-follows : (b : Page) (a : ℕ) (o : Place) → Follows (Some (left_in b a)) (leave (state_told b) a (cell_told o) o.mail)
leave-follows b a o = ap (λ actors. Goes (record (state_told b) { actors = actors })) (reaped-told (a ∷ []) b.places)

-- ---- an event

-- after an event, if it is enabled
abbrev pub next_page : Page → Event → Option Page
next_page b (Take a) = acting_told may_take (λ o. taken_in b a o o.mail) (place_at b.places a)
next_page b (Go a) = acting_told may_go (λ o. gone_in b a o o.cell.frame) (place_at b.places a)
next_page b (Collect a) = acting_told may_collect (λ o. Some (collected_in b a o)) (place_at b.places a)
next_page b (Leave a) = acting_told may_leave (λ o. Some (left_in b a)) (place_at b.places a)
next_page b (Block a) = acting_told may_block (λ o. Some (blocked_in b a o)) (place_at b.places a)
next_page b Hear = heard_in b b.state.notes
next_page b Scan = scanned_in b b.state.detector.news
next_page b (Reap number) = reaped_in b (acked_token number b.state.detector)

pub next-follows : (b : Page) (e : Event) → Follows (next_page b e) (next (state_told b) e)
next-follows b (Take a) = acting-follows b a may_take _ (take (state_told b) a) (λ o. take-follows b a o o.mail)
next-follows b (Go a) = acting-follows b a may_go _ (go (traced b) (state_told b) a) (λ o. go-follows b a o o.cell.frame)
next-follows b (Collect a) = acting-follows b a may_collect _ (collect (traced b) (state_told b) a) (collect-follows b a)
next-follows b (Leave a) = acting-follows b a may_leave _ (leave (state_told b) a) (leave-follows b a)
next-follows b (Block a) = acting-follows b a may_block _ (block (state_told b) a) (block-follows b a)
next-follows b Hear = hear-follows b b.state.notes
next-follows b Scan = scan-follows b b.state.detector.news
next-follows b (Reap number) = reap-follows b (acked_token number b.state.detector)

-- ---- the events of a run

-- after these events, if each is enabled in its turn
abbrev pub after_all : List Event → Option Page → Option Page
after_all [] b = b
after_all (e ∷ events) None = None
after_all (e ∷ events) (Some b) = after_all events (next_page b e)

none_after : (events : List Event) (c : Page) → after_all events None ≢ Some c
none_after [] c h = cc
none_after (e ∷ events) c h = cc

pub after_all-leads : (events : List Event) (b c : Page) → after_all events (Some b) ≡ Some c → Leads next (state_told b) events (state_told c)
after_all-leads [] b c h = ap (λ o. option_map_or state_told o (state_told b)) h
after_all-leads (e ∷ events) b c h = cases (next_page b e) (next-follows b e) h (λ d. after_all-leads events d c)
  where
    cases : (o : Option Page) → Follows o (next (state_told b) e) → after_all events o ≡ Some c
        → ((d : Page) → after_all events (Some d) ≡ Some c → Leads next (state_told d) events (state_told c)) → Leads next (state_told b) (e ∷ events) (state_told c)
    cases None follows h later = absurd (none_after events c h)
    cases (Some d) goes h later = (state_told d, goes, later d h)
