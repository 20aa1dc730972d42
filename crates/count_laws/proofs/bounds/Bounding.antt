-- Each event raises what is counted of a thing by the weight at most, and opens one token at most.
use Rattle.std.proofs.Common.{◌≡◌, ℕ, zero, suc, ◌+◌, ◌*◌, ◌<◌, ◌≤◌, Bool, true, false, Option, Some, None, List, [], ◌∷◌, ◌++◌, length, set, refl, ap, subst, ◌∙◌, length-set, arith, ⊎_elim}
use Rattle.std.proofs.lemmas.Bool.{cases_eq, cases_lt}
use Rattle.std.proofs.lemmas.List.{get_or_past, length-append}
use Rattle.std.proofs.lemmas.List.Sums.{sum_by-cons}
use Rattle.std.specs.FinMap as m
use Rattle.std.specs.Option.{option_map_or}
use Rattle.std.specs.Ordering.{nat_cmp}
use Rattle.std.specs.Prelude.{sum_by}
use Rattle.orca_names.specs.Names.{owner_of}
use Rattle.orca_names.specs.declared.names.Thing.{Thing}
use Rattle.orca_names.specs.declared.names.Thing.TheVariants.{Actor, Obj}
use Rattle.orca_names.specs.declared.names.Value.{Value}
use Rattle.behaviour_code.specs.Find.{start_name}
use Rattle.behaviour_code.specs.declared.code.Program.{Program}
use Rattle.turn_rules.specs.Segment.{Stop}
use Rattle.turn_rules.specs.declared.act.Frame.{Frame}
use Rattle.event_rule.specs.declared.event.Event.{Event}
use Rattle.letter_kinds.proofs.Amounts.{own-lower_all, own-mint_all}
use Rattle.letter_kinds.proofs.Counts.{own-receive, own_set_held}
use Rattle.letter_kinds.proofs.Raising.{own_le-raise_all, own_le-send, own_le-with_made}
use Rattle.letter_kinds.proofs.Sums.{sum-nil}
use Rattle.letter_kinds.specs.Counting.{Amount, Loaded, by_owner, gain, given_back, mint_all, send, sweep, to_mint}
use Rattle.letter_kinds.specs.Detector.{Detector, closed_set, hear_note, after_scan}
use Rattle.letter_kinds.specs.Holdings.{Holdings, Row, own_in, with_made}
use Rattle.letter_kinds.specs.Sums.{amount_of, inc_of}
use Rattle.letter_kinds.specs.Letters.{Letter, App, Inc, Dec, Confirm}
use Rattle.letter_kinds.specs.declared.note.Note.{Note}
use Rattle.letter_kinds.specs.declared.note.Note.TheVariants.{Block, Unblock, Ack}
use Rattle.machine_rules.proofs.Stepping.{step_of}
use Rattle.machine_rules.specs.Rules.{IsStep, cell_kept, later_frame}
use Rattle.machine_rules.specs.Rules as rule
use Rattle.count_laws.proofs.events.Every.{length-decs, push_none, set_none}
use Rattle.machine_rules.proofs.Posting.{length-push}
use Rattle.count_laws.proofs.balance.Makes.{more_last, more_other}
use Rattle.count_laws.proofs.letters.Once.{load_once, minted_once, needed_once}
use Rattle.count_laws.proofs.balance.Posting.{incs_at_push, own_at_push}
use Rattle.count_laws.proofs.events.Reap.{length-reap}
use Rattle.count_laws.proofs.balance.SeatReads.{incs_at-none, incs_at-seat, letter_App, letter_Confirm, letter_Dec, letter_Inc, own_at-none, own_at-seat}
use Rattle.count_laws.proofs.balance.Seats.{at_other, at_same}
use Rattle.machine_rules.proofs.Present.{present_below}
use Rattle.count_laws.proofs.balance.Sends.{push_is}
use Rattle.count_laws.proofs.balance.Sweeping.{own-sweep, same_holdings}
use Rattle.machine_rules.specs.Actors.{Actors, Seat, push_decs, push_letter, seat, seat_at, with_letter_more}
use Rattle.machine_rules.specs.Balance.{incs_at, own_at}
use Rattle.count_laws.specs.Bounds.{EventsOpenOneToken, EventsRaiseByTheWeight, RunsCountByTheWeight, RunsMakeFewActors, RunsOpenNoMoreTokens, owner_count}
use Rattle.machine_rules.specs.Cell.{Cell, first_cell, fresh_cell}
use Rattle.machine_rules.specs.Collect.{after_collect, is_marked, without_unused}
use Rattle.machine_rules.specs.Detect.{ask_all, empty_seats, reap_decs, reap_members}
use Rattle.machine_rules.specs.Go.{load_from, make, mint, post, rows_from, to_need, turn_of_cell, cell_after_turn}
use Rattle.event_rule.specs.Runs.{Leads, Goes}
use Rattle.machine_rules.specs.Next.{next}
use Rattle.orca_names.specs.declared.trace.Trace.{Trace}
use Rattle.machine_rules.specs.Options.{Options}
use Rattle.plain_rules.specs.Machine.{stopped_at, with_name}
use Rattle.machine_rules.specs.State.{State, first_state, start_letters}
use Rattle.machine_rules.specs.Take.{cell_after}

-- ---- what one seat counts

abbrev seat_counts : Thing → Option Seat → ℕ
seat_counts x o = own_at x o + incs_at x o

seat_counts-none : (x : Thing) → seat_counts x None ≡ 0
seat_counts-none x = omega (arith, own_at-none x, incs_at-none x)

seat_counts-seat : (x : Thing) (c : Cell) (mail : List Letter) → seat_counts x (seat c mail) ≡ own_in c.holdings x + sum_by (inc_of x) mail
seat_counts-seat x c mail = omega (arith, own_at-seat x c mail, incs_at-seat x c mail)

-- ---- one seat is changed, one letter comes, one actor goes

counted-set : (s : Actors) (b : ℕ) (old new : Option Seat) → b < length s → seat_at s b ≡ old → (k : ℕ) (x : Thing)
    → (owner_of x ≡ b → seat_counts x new ≤ seat_counts x old + k) → owner_count x (set s b new) ≤ owner_count x s + k
counted-set s b old new within at k x h = ⊎_elim
    (λ is. rw (at_same s b old new within at (owner_of x) is) (let z : seat_at s (owner_of x) ≡ old = rw is at in rw z (h is)))
    (λ not. rw (at_other s b old new within at (owner_of x) not) (omega arith))
    (cases_eq (owner_of x) b)

-- a cell is changed, and its letters stay
counted-cell : (s : Actors) (b : ℕ) (old new : Cell) (mail : List Letter) → seat_at s b ≡ seat old mail → (k : ℕ) (x : Thing)
    → (owner_of x ≡ b → own_in new.holdings x ≤ own_in old.holdings x + k) → owner_count x (set s b (seat new mail)) ≤ owner_count x s + k
counted-cell s b old new mail at k x h = counted-set s b (seat old mail) (seat new mail) (present_below s b _ at) at k x
    (λ is. let z = h is in omega (arith, seat_counts-seat x old mail, seat_counts-seat x new mail))

counted-push : (s : Actors) (b : ℕ) (l : Letter) (x : Thing) → owner_count x (push_letter b l s) ≤ owner_count x s + inc_of x l
counted-push s b l x = by_seat (seat_at s b) refl
  where
    by_seat : (o : Option Seat) → seat_at s b ≡ o → owner_count x (push_letter b l s) ≤ owner_count x s + inc_of x l
    by_seat None at = rw (push_none s b l at) (rw (set_none s b (owner_of x) at) (omega arith))
    by_seat (Some o) at = rw (push_is s b l o at) (counted-set s b (Some o) (with_letter_more l (Some o)) (present_below s b o at) at (inc_of x l) x
        (λ is. omega (arith, own_at_push x o l, incs_at_push x o l)))

counted-decs : (gs : List (ℕ × List Amount)) (s : Actors) (x : Thing) → owner_count x (push_decs gs s) ≤ owner_count x s
unfolding push_decs
counted-decs [] s x = omega arith
counted-decs (g ∷ gs) s x =
    let later = counted-decs gs (push_letter g.0 (Dec g.1) s) x in
    let one = counted-push s g.0 (Dec g.1) x in
    let z = (letter_Dec x g.1).0 in omega arith

counted-asked : (members : List ℕ) (token : ℕ) (s : Actors) (x : Thing) → owner_count x (ask_all members token s) ≤ owner_count x s
counted-asked [] token s x = omega arith
counted-asked (a ∷ members) token s x =
    let later = counted-asked members token (push_letter a (Confirm token) s) x in
    let one = counted-push s a (Confirm token) x in
    let z = (letter_Confirm x token).0 in omega arith

counted-clear : (s : Actors) (b : ℕ) (x : Thing) → owner_count x (set s b None) ≤ owner_count x s
counted-clear s b x = ⊎_elim
    (λ within. let z = counted-set s b (seat_at s b) None within refl 0 x (λ is. let n = seat_counts-none x in omega arith) in omega arith)
    (λ past. rw (set_none s b (owner_of x) (get_or_past s b None past)) (omega arith))
    (cases_lt b (length s))

counted-emptied : (members : List ℕ) (s : Actors) (x : Thing) → owner_count x (empty_seats members s) ≤ owner_count x s
unfolding empty_seats
counted-emptied [] s x = omega arith
counted-emptied (a ∷ members) s x =
    let one = counted-clear s a x in
    let later = counted-emptied members (set s a None) x in omega arith

counted-reaped : (members : List ℕ) (s : Actors) (x : Thing) → owner_count x (reap_members members s) ≤ owner_count x s
counted-reaped members s x =
    let emptied = counted-emptied members s x in
    let later = counted-decs (reap_decs members members s) (empty_seats members s) x in omega arith

-- ---- one actor more

fresh_counts : (w : ℕ) (program : Program) (kind : ℕ) (x : Thing) → own_in (fresh_cell w program kind).holdings x ≤ w
unfolding own_in
fresh_counts w program kind (Actor a) = omega arith
fresh_counts w program kind (Obj n) = rw (m.get-empty {X = Row × ℕ} nat_cmp n.serial) (omega arith)

counted-more : (s : Actors) (new : Option Seat) (k : ℕ) (x : Thing) → (owner_of x ≡ length s → seat_counts x new ≤ k) → owner_count x (s ++ new ∷ []) ≤ owner_count x s + k
counted-more s new k x h = ⊎_elim
    (λ is. rw (more_last s new (owner_of x) is) (let z = h is in omega arith))
    (λ not. rw (more_other s new (owner_of x) not) (omega arith))
    (cases_eq (owner_of x) (length s))

-- ---- an actor takes a letter

taken_counts : (program : Program) (me : ℕ) (x : Thing) (c : Cell) (l : Letter) → owner_of x ≡ me → own_in (cell_after program me l c).holdings x ≤ own_in c.holdings x + inc_of x l
taken_counts program me x c (App behaviour args load rows) o = let z = own-receive me x load c.holdings o in omega arith
taken_counts program me x c (Inc things) o = let z = own_le-raise_all me x things c.holdings o in omega (arith, (letter_Inc x things).0)
taken_counts program me x c (Dec things) o = let z = own-lower_all me x things c.holdings o in omega arith
taken_counts program me x c (Confirm token) o = omega arith

-- ---- an actor goes on

module _ (s : Actors) (a : ℕ) (c : Cell) (mail : List Letter) (at : seat_at s a ≡ seat c mail) where
  turned_counts : (stop : Stop) (frame : Option Frame) (dirty : Bool) (x : Thing) → owner_count x (set s a (seat (cell_after_turn stop frame dirty c) mail)) ≤ owner_count x s
  turned_counts stop frame dirty x =
      let z : owner_count x (set s a (seat (cell_after_turn stop frame dirty c) mail)) ≤ owner_count x s + 0
      = counted-cell s a c (cell_after_turn stop frame dirty c) mail at 0 x (λ o. let k = own_le-with_made stop.turn.made c.holdings x in omega arith) in
      omega arith

  made_counts : (w : ℕ) (stop : Stop) (g : Frame) (program : Program) (kind : ℕ) (x : Thing)
      → owner_count x (make w a (cell_after_turn stop (Some g) c.dirty c) mail (fresh_cell w program kind) s) ≤ owner_count x s + w
  made_counts w stop g program kind x =
      let maker : Cell = record (cell_after_turn stop (Some g) c.dirty c) { holdings = gain w (Actor (length s)) None (with_made stop.turn.made c.holdings) } in
      let one : owner_count x (set s a (seat maker mail)) ≤ owner_count x s + 0
      = counted-cell s a c maker mail at 0 x (λ o.
      let k = own_le-with_made stop.turn.made c.holdings x in
      let q = own_set_held (λ h. h + w) x (Actor (length s)) None (with_made stop.turn.made c.holdings) in omega arith) in
      let two = counted-more (set s a (seat maker mail)) (seat (fresh_cell w program kind) []) w x (λ is.
      omega (arith, seat_counts-seat x (fresh_cell w program kind) [], sum-nil (inc_of x), fresh_counts w program kind x)) in
      omega arith

  posted_counts : (trace : Trace) (stop : Stop) (frame : Option Frame) (dirty : Bool) (to behaviour : ℕ) (args : List Value) (rows : List Loaded) (x : Thing)
      → owner_count x (post a (cell_after_turn stop frame dirty c) mail to behaviour args (load_from trace a (with_made stop.turn.made c.holdings) args) rows s) ≤ owner_count x s + 1
  posted_counts trace stop frame dirty to behaviour args rows x =
      let h : Holdings = with_made stop.turn.made c.holdings in
      let load = load_from trace a h args in
      let sender : Cell = record (cell_after_turn stop frame dirty c) { holdings = send a load h } in
      let one : owner_count x (set s a (seat sender mail)) ≤ owner_count x s + 1
      = counted-cell s a c sender mail at 1 x (λ o.
      let k = own_le-with_made stop.turn.made c.holdings x in
      let q = own_le-send a x load h o in
      let w = load_once trace a h args x in omega arith) in
      let two = counted-push (set s a (seat sender mail)) to (App behaviour args load rows) x in
      let z = (letter_App x behaviour args load rows).0 in
      omega arith

  minted_counts : (w b : ℕ) (things : List Amount) (x : Thing) → amount_of x things ≤ w → owner_count x (mint a c mail b things s) ≤ owner_count x s + w
  minted_counts w b things x le =
      let minter : Cell = record c { holdings = mint_all things c.holdings } in
      let one : owner_count x (set s a (seat minter mail)) ≤ owner_count x s + 0
      = counted-cell s a c minter mail at 0 x (λ o. let q = own-mint_all x things c.holdings in omega arith) in
      let two = counted-push (set s a (seat minter mail)) b (Inc things) x in
      let z = (letter_Inc x things).0 in
      omega arith

  collected_counts : (marked : Thing → Bool) (d : Cell) → d.holdings ≡ c.holdings → (x : Thing) → owner_count x (after_collect marked a d mail s) ≤ owner_count x s
  collected_counts marked d same x =
      let swept : Cell = record d { holdings = sweep marked a d.holdings; dirty = false } in
      let one : owner_count x (set s a (seat swept mail)) ≤ owner_count x s + 0
      = counted-cell s a c swept mail at 0 x (λ o. let q = own-sweep marked a d.holdings x in let w = ap (λ h. own_in h x) same in omega arith) in
      let two = counted-decs (by_owner (given_back marked d.holdings)) (set s a (seat swept mail)) x in
      omega arith

-- ---- each event

abbrev Raises : State → Event → State → Type 0
Raises s e t = 0 < s.options.weight → (x : Thing) → owner_count x t.actors ≤ owner_count x s.actors + s.options.weight

at_most : (n k w : ℕ) → n ≤ k → n ≤ k + w
at_most n k w h = omega arith

raises : (trace : Trace) (s : State) {e : Event} {t : State} → IsStep trace s e t → Raises s e t
raises trace s (rule.takes a c l mail at is) pos x =
    let z : owner_count x (set s.actors a (seat (cell_after s.program a l c) mail)) ≤ owner_count x s.actors + 0
    = counted-set s.actors a (seat c (l ∷ mail)) (seat (cell_after s.program a l c) mail) (present_below s.actors a _ at) at 0 x
    (λ o. let k = taken_counts s.program a x c l o in
    omega (arith, seat_counts-seat x c (l ∷ mail), seat_counts-seat x (cell_after s.program a l c) mail, sum_by-cons (inc_of x) l mail)) in
    omega arith
raises trace s (rule.ends a c mail f stops) pos x = at_most _ _ _ (turned_counts s.actors a c mail stops.going.present (turn_of_cell trace s.program a c f) None true x)
raises trace s (rule.prints a c mail f v stops) pos x =
    at_most _ _ _ (turned_counts s.actors a c mail stops.going.present (turn_of_cell trace s.program a c f) (Some (stopped_at f (turn_of_cell trace s.program a c f))) c.dirty x)
raises trace s (rule.makes a c mail f kind register stops room) pos x = made_counts s.actors a c mail stops.going.present s.options.weight (turn_of_cell trace s.program a c f) (with_name (later_frame trace s a c f) register (length s.actors)) s.program kind x
raises trace s (rule.posts a c mail f to behaviour args stops none) pos x =
    let z = posted_counts s.actors a c mail stops.going.present trace (turn_of_cell trace s.program a c f) (Some (stopped_at f (turn_of_cell trace s.program a c f))) c.dirty
    to behaviour args (rows_from trace a (cell_kept trace s a c f) args) x in omega arith
raises trace s (rule.mints a c mail f to behaviour args e lacked stops is) pos x =
    minted_counts s.actors a c mail stops.going.present s.options.weight (owner_of e.0) (to_mint s.options.weight (owner_of e.0) (e ∷ lacked)) x
    (minted_once trace s.options.weight a (owner_of e.0) (cell_kept trace s a c f).holdings args x (e ∷ lacked) is)
raises trace s (rule.gets a c mail f y going need) pos x =
    minted_counts s.actors a c mail going.present s.options.weight (owner_of y) (to_need s.options.weight a c.holdings y) x (needed_once s.options.weight a c.holdings y x)
raises trace s (rule.collects a c mail at may) pos x =
    at_most _ _ _ (collected_counts s.actors a c mail at (is_marked trace a c) (without_unused trace a c) (same_holdings trace a c) x)
raises trace s (rule.leaves a c mail at may) pos x = at_most _ _ _ (counted-reaped (a ∷ []) s.actors x)
raises trace s (rule.blocks a c mail at may) pos x =
    let z : owner_count x (set s.actors a (seat (record c { reported = true }) mail)) ≤ owner_count x s.actors + 0
    = counted-cell s.actors a c (record c { reported = true }) mail at 0 x (λ o. omega arith) in omega arith
raises trace s (rule.hears note later is) pos x = omega arith
raises trace s (rule.scans news) pos x = at_most _ _ _ (counted-asked (closed_set s.detector) (suc s.detector.opened) s.actors x)
raises trace s (rule.reaps number token is) pos x = at_most _ _ _ (counted-reaped token.members s.actors x)

pub events_raise : EventsRaiseByTheWeight
events_raise s t e pos goes = raises s.options.trace s (step_of s t e goes) pos

-- ---- tokens

scanned_opened : (d : Detector) (found : List ℕ) → (after_scan d found).opened ≤ suc d.opened
scanned_opened d [] = omega arith
scanned_opened d (a ∷ members) = omega arith

heard_opened : (note : Note) (d : Detector) → (hear_note note d).opened ≡ d.opened
heard_opened (Block a count held) d = refl
heard_opened (Unblock a) d = refl
heard_opened (Ack number a) d = refl

abbrev Opens : State → Event → State → Type 0
Opens s e t = t.detector.opened ≤ suc s.detector.opened

opens : (trace : Trace) (s : State) {e : Event} {t : State} → IsStep trace s e t → Opens s e t
opens trace s (rule.hears note later is) = let z = heard_opened note s.detector in omega arith
opens trace s (rule.scans news) = scanned_opened s.detector (closed_set s.detector)
opens trace s is = omega arith

pub events_open : EventsOpenOneToken
events_open s t e goes = opens s.options.trace s (step_of s t e goes)

-- ---- actors

pub length-asked : (members : List ℕ) (token : ℕ) (s : Actors) → length (ask_all members token s) ≡ length s
length-asked [] token s = refl
length-asked (a ∷ members) token s = length-asked members token (push_letter a (Confirm token) s) ∙ length-push a (Confirm token) s

abbrev Room : State → Event → State → Type 0
Room s e t = length s.actors ≤ 65536 → length t.actors ≤ 65536

set_room : (s : Actors) (a : ℕ) (o : Option Seat) → length s ≤ 65536 → length (set s a o) ≤ 65536
set_room s a o h = let l = length-set s a o in omega arith

push_room : (s : Actors) (b : ℕ) (l : Letter) → length s ≤ 65536 → length (push_letter b l s) ≤ 65536
push_room s b l h = let k = length-push b l s in omega arith

more_room : (s : Actors) (a : ℕ) (o new : Option Seat) → length s < 65536 → length (set s a o ++ new ∷ []) ≤ 65536
more_room s a o new h = let l = length-set s a o in let k = length-append (set s a o) (new ∷ []) in omega arith

room_in : (trace : Trace) (s : State) {e : Event} {t : State} → IsStep trace s e t → Room s e t
room_in trace s (rule.takes a c l mail at is) h = set_room s.actors a _ h
room_in trace s (rule.ends a c mail f stops) h = set_room s.actors a _ h
room_in trace s (rule.prints a c mail f v stops) h = set_room s.actors a _ h
room_in trace s (rule.makes a c mail f kind register stops room) h = more_room s.actors a _ _ room
room_in trace s (rule.posts a c mail f to behaviour args stops none) h = push_room _ to _ (set_room s.actors a _ h)
room_in trace s (rule.mints a c mail f to behaviour args e lacked stops is) h = push_room _ _ _ (set_room s.actors a _ h)
room_in trace s (rule.gets a c mail f x going need) h = push_room _ _ _ (set_room s.actors a _ h)
room_in trace s (rule.collects a c mail at may) h =
    let k = length-decs (by_owner (given_back (is_marked trace a c) (without_unused trace a c).holdings))
    (set s.actors a (seat (record (without_unused trace a c) { holdings = sweep (is_marked trace a c) a (without_unused trace a c).holdings; dirty = false }) mail)) in
    let l = length-set s.actors a (seat (record (without_unused trace a c) { holdings = sweep (is_marked trace a c) a (without_unused trace a c).holdings; dirty = false }) mail) in
    omega arith
room_in trace s (rule.leaves a c mail at may) h = let l = length-reap (a ∷ []) s.actors in omega arith
room_in trace s (rule.blocks a c mail at may) h = set_room s.actors a _ h
room_in trace s (rule.hears note later is) h = h
room_in trace s (rule.scans news) h = let l = length-asked (closed_set s.detector) (suc s.detector.opened) s.actors in omega arith
room_in trace s (rule.reaps number token is) h = let l = length-reap token.members s.actors in omega arith

pub leads_room : (book : List Event) (s t : State) → Leads next s book t → length s.actors ≤ 65536 → length t.actors ≤ 65536
leads_room [] s t same h = subst (λ (u : State). length u.actors ≤ 65536) same h
leads_room (e ∷ book) s t (u, goes, leads) h = leads_room book u t leads (room_in s.options.trace s (step_of s u e goes) h)

pub runs_make_few : RunsMakeFewActors
runs_make_few program options book t run = leads_room book (first_state program options) t run (omega arith)

-- ---- the options stay

abbrev Stays : State → Event → State → Type 0
Stays s e t = t.options ≡ s.options

stays : (trace : Trace) (s : State) {e : Event} {t : State} → IsStep trace s e t → Stays s e t
stays trace s (rule.takes a c l mail at is) = refl
stays trace s is = refl

pub options_stay : (s t : State) (e : Event) → next s e ≡ Goes t → t.options ≡ s.options
options_stay s t e goes = stays s.options.trace s (step_of s t e goes)

-- ---- runs

leads_count : (book : List Event) (s t : State) → 0 < s.options.weight → Leads next s book t → (x : Thing) → owner_count x t.actors ≤ owner_count x s.actors + length book * s.options.weight
leads_count [] s t pos leads x = let z = ap (λ (u : State). owner_count x u.actors) leads in omega arith
leads_count (e ∷ book) s t pos (u, goes, leads) x =
    let one = events_raise s u e pos goes x in
    let w : u.options.weight ≡ s.options.weight = ap (λ (o : Options). o.weight) (options_stay s u e goes) in
    let later : owner_count x t.actors ≤ owner_count x u.actors + length book * u.options.weight = leads_count book u t (omega arith) leads x in
    let later' : owner_count x t.actors ≤ owner_count x u.actors + length book * s.options.weight = rw w at later in
    omega arith

leads_open : (book : List Event) (s t : State) → Leads next s book t → t.detector.opened ≤ s.detector.opened + length book
leads_open [] s t leads = let z = ap (λ (u : State). u.detector.opened) leads in omega arith
leads_open (e ∷ book) s t (u, goes, leads) =
    let one = events_open s u e goes in
    let later = leads_open book u t leads in
    omega arith

-- at the start nothing is counted
start_incs : (found : Option ℕ) (x : Thing) → sum_by (inc_of x) (option_map_or (λ name. App name [] [] [] ∷ []) found []) ≡ 0
start_incs None x = sum-nil (inc_of x)
start_incs (Some name) x = omega (arith, sum_by-cons (inc_of x) (App name [] [] []) [], (letter_App x name [] [] []).0, sum-nil (inc_of x))

start_counts : (program : Program) (options : Options) (x : Thing) → owner_count x (first_state program options).actors ≡ 0
start_counts program options x = by_owner (owner_of x)
  where
    by_owner : (i : ℕ) → seat_counts x (seat_at (first_state program options).actors i) ≡ 0
    by_owner zero =
        omega (arith, seat_counts-seat x (first_cell program) (start_letters program), start_incs (start_name program) x, fresh_counts 0 program 0 x)
    by_owner (suc i) = seat_counts-none x

pub runs_count : RunsCountByTheWeight
runs_count program options pos book t run x =
    let z = leads_count book (first_state program options) t pos run x in
    let o = start_counts program options x in omega arith

pub runs_open : RunsOpenNoMoreTokens
runs_open program options book t run = let z = leads_open book (first_state program options) t run in omega arith
