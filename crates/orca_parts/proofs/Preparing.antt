-- What a step finds of its actor before it changes anything.
use Rattle.std.proofs.Common.{◌≡◌, ℕ, ◌<◌, ◌≤◌, subst, inl, inr, Bool, true, false, List, [], ◌∷◌, map, get_or, length, Option, Some, None, refl, sym, ap, ◌∙◌, arith}
use Rattle.std.specs.Prelude.{◌&&◌, if◌then◌else◌, is_none, IfErr, OnOk}
use Rattle.std.specs.declared.result.Result.{Result}
use Rattle.std.specs.declared.result.Result.TheVariants.{Ok, Err}
use Rattle.std.specs.Option.{option_map_or}
use Rattle.std.proofs.lemmas.Bool.{cases_lt}
use Rattle.std.proofs.lemmas.List.{get_or-map, get_or_past, length-map}
use Rattle.event_rule.specs.Runs.{NotEnabled, Step}
use Rattle.event_rule.specs.declared.event.Event.{Event}
use Rattle.event_rule.specs.Events.{actor_of}
use Rattle.event_rule.specs.declared.event.Event.TheVariants.{Take, Go, Collect, Leave, Block, Hear, Scan, Reap}
use Rattle.std.specs.VecDeque.{deque_capacity, deque_len}
use Rattle.letter_kinds.specs.Letters.{Letter}
use Rattle.turn_rules.specs.declared.act.Frame.{Frame}
use Rattle.turn_rules.specs.Segment.{Turn}
use Rattle.actor_cell.specs.declared.turning.Turned.{Turned}
use Rattle.machine_rules.specs.Actors.{Seat, seat_at}
use Rattle.machine_rules.specs.Cell as rules
use Rattle.machine_rules.specs.Next.{acting}
use Rattle.machine_rules.specs.State.{State}
use Rattle.machine_rules.specs.Guards.{may_block, may_collect, may_do, may_go, may_leave, may_take}
use Rattle.machine_rules.specs.Block.{block}
use Rattle.machine_rules.specs.Collect.{collect, is_marked}
use Rattle.machine_rules.specs.Go.{go}
use Rattle.machine_rules.specs.Leave.{leave}
use Rattle.machine_rules.specs.Take.{take}
use Rattle.orca_names.specs.declared.trace.Trace.{Trace}
use Rattle.letter_kinds.specs.Counting.{by_owner, given_back}
use Rattle.known_rows.specs.Holdings.{holdings_of}
use Rattle.local_sweep.proofs.GivenBack.{back_rises}
use Rattle.actor_cell.specs.declared.cell.Cell.{Cell}
use Rattle.actor_cell.specs.Cells.{as_cell}
use Rattle.actor_cell.specs.declared.sweeping.Sweep.{Sweep}
use Rattle.actor_cell.specs.Sweeps.{sweep_of}
use Rattle.actor_cell.proofs.Marked.{back_same}
use Rattle.actor_table.specs.declared.slot.Place.{Place}
use Rattle.actor_table.specs.declared.slot.Place.TheVariants.{Home, Away, Gone}
use Rattle.actor_table.specs.declared.slot.Slot.{Slot}
use Rattle.actor_cell.specs.Takes.{HasRoomFor}
use Rattle.actor_table.specs.Slots.{actors_of, away_of, gone, home_in, home_of, is_away, is_away_in, letters_in, may_at, may_event, may_in, places_of, seat_in, seat_of, slot_at}
use Rattle.actor_table.proofs.Changing.{away_read, seat_read}
use Rattle.orca_parts.specs.declared.parts.Parts.{Parts}
use Rattle.orca_parts.specs.Core.{KeepsCore, StandsWell, core_state, next_in}
use Rattle.orca_parts.specs.Faults.{RefusedBy}
use Rattle.orca_parts.specs.Fits.{ActsAt, CollectsWith, FitsTake, KeepsTurn, OnlyRoom}
use Rattle.orca_parts.specs.Ready.{FitsEvent, IsFaultIn, Prepares}
use Rattle.orca_parts.specs.declared.fault.StepFault.{StepFault}
use Rattle.orca_parts.specs.declared.fault.StepFault.TheVariants as faults
use Rattle.orca_parts.specs.declared.insides.Core.{Core}
use Rattle.orca_parts.proofs.Awaiting.{still_awaited}
use Rattle.orca_parts.specs.Letters.{letters_to}
use Rattle.orca_parts.specs.Touched.{receivers}
use Rattle.orca_parts.specs.Away.{is_out}
use Rattle.orca_parts.proofs.Homes.{home_is}
use Rattle.orca_parts.proofs.Reserving.{once_each}
use Rattle.actor_table.specs.Telling.{PlaceLies, TableLies, TableTells}
use Rattle.actor_table.proofs.Telling.{still_told}
use Rattle.letter_kinds.specs.Telling.{TellsOnly}
use Rattle.mail_rows.specs.Mail.{first_brought}

module _ (may : rules.Cell → List Letter → Bool) where
  -- an actor that may not act at home is away, or its event is not enabled
  pub no_step : (act : rules.Cell → List Letter → Step State) (slots : List Slot) (a : ℕ) → may_at may (slot_at slots a) ≡ false
      → (if is_out (away_of slots) a then NotEnabled else acting may act (seat_at (actors_of slots) a)) ≡ NotEnabled
  no_step act slots a off =
      (λ i. if away_read slots a i then NotEnabled else acting may act (seat_read slots a i)) ∙ by (slot_at slots a).place (slot_at slots a).mail.letters off
    where
      by : (p : Place) (letters : List Letter) → may_in may p letters ≡ false → (if is_away_in p then NotEnabled else acting may act (seat_in p letters)) ≡ NotEnabled
      by (Home c) letters off = ap (λ q. if q then act (as_cell c) letters else NotEnabled) off
      by (Away c) letters off = refl
      by Gone letters off = refl

  -- what it may, the cell at home may
  pub may_here : (x : Slot) (c : Cell) → x.place ≡ Home c → may_at may x ≡ true → may (as_cell c) x.mail.letters ≡ true
  may_here x c home on = sym (ap (λ p. may_in may p x.mail.letters) home) ∙ on

-- the table lends no cell where the actor may not do the event, or its cell is away
pub not_acting : (e : Event) (x : Slot) → None ≡ (if may_event e x then home_of x else None) → may_event e x ≡ false
not_acting e x none = by x.place none
  where
    which : (c : Cell) (b : Bool) → None ≡ (if b then Some c else None) → b ≡ false
    which c true is = cc
    which c false is = refl

    by : (p : Place) → None ≡ (if may_in (λ c mail. may_do c mail e) p x.mail.letters then home_in p else None) → may_in (λ c mail. may_do c mail e) p x.mail.letters ≡ false
    by (Home c) is = which c (may_do (as_cell c) x.mail.letters e) is
    by (Away c) is = refl
    by Gone is = refl

-- and the one at home where it may
pub acts_home : (e : Event) (x : Slot) (c : Cell) → Some c ≡ (if may_event e x then home_of x else None) → (Some c ≡ home_of x) × (may_event e x ≡ true)
acts_home e x c lent = by (may_event e x) lent
  where
    by : (b : Bool) → Some c ≡ (if b then home_of x else None) → (Some c ≡ home_of x) × (b ≡ true)
    by true is = (is, refl)
    by false is = cc

-- so the actor acts at its place
pub acts_here : (e : Event) (x : Slot) (c : Cell) (Q : Cell → Type 0) → Some c ≡ (if may_event e x then home_of x else None) → Q c → ActsAt e x Q
acts_here e x c Q lent so =
    let its = acts_home e x c lent in
    let home = home_is x c its.0 in
    record { cell = c; home = home; may = may_here (λ d mail. may_do d mail e) x c home its.1; so = so }

-- what is read of a place
pub read_by : {A : Type 0} (f : Slot → A) (slots : List Slot) (a : ℕ) → get_or (map f slots) a (f gone) ≡ f (slot_at slots a)
read_by f slots a = elim (cases_lt a (length slots)) as (λ _. get_or (map f slots) a (f gone) ≡ f (slot_at slots a)) [
  | inl h ↦ get_or-map f slots a gone (f gone) h
  | inr h ↦ get_or_past (map f slots) a (f gone) (omega (arith, length-map slots f)) ∙ ap f (sym (get_or_past slots a gone h))
]

-- what is the same of all places is the same of each
pub same_at : {A : Type 0} (f : Slot → A) (new old : List Slot) → map f new ≡ map f old → (a : ℕ) → f (slot_at new a) ≡ f (slot_at old a)
same_at f new old same a = sym (read_by f new a) ∙ ap (λ xs. get_or xs a (f gone)) same ∙ read_by f old a

-- whether it may is a matter of its seat, and of whether its cell is away
may_by : (may : rules.Cell → List Letter → Bool) (p : Place) (letters : List Letter)
    → may_in may p letters ≡ (if is_away_in p then false else option_map_or (λ (o : Seat). may o.cell o.mail) (seat_in p letters) false)
may_by may (Home c) letters = refl
may_by may (Away c) letters = refl
may_by may Gone letters = refl

pub may_stays : (may : rules.Cell → List Letter → Bool) (x y : Slot) → seat_of y ≡ seat_of x → is_away y ≡ is_away x → may_at may y ≡ may_at may x
may_stays may x y seat away =
    may_by may y.place y.mail.letters
    ∙ (λ i. if away i then false else option_map_or (λ (o : Seat). may o.cell o.mail) (seat i) false)
    ∙ sym (may_by may x.place x.mail.letters)

idle_and : (frame : Option Frame) (b : Bool) → (is_none frame && b) ≡ true → (frame ≡ None) × (b ≡ true)
idle_and None b on = (refl, on)
idle_and (Some f) b on = cc

-- who may collect rests and is dirty
pub rests_dirty : (c : Cell) (letters : List Letter) → may_collect (as_cell c) letters ≡ true → (c.frame ≡ None) × (c.dirty ≡ true)
rests_dirty c letters on = idle_and c.frame c.dirty on

pub fits_take : (a : ℕ) (m : Parts) (old : List Slot) → actors_of m.table.slots ≡ actors_of old → away_of m.table.slots ≡ away_of old
    → may_at may_take (slot_at old a) ≡ true → ((c : Cell) → (slot_at m.table.slots a).place ≡ Home c → (letter : Letter) (later : List Letter) → (slot_at m.table.slots a).mail.letters ≡ letter ∷ later
    → HasRoomFor letter (first_brought (slot_at m.table.slots a).mail) c)
    → deque_len m.notes < deque_capacity m.notes → FitsTake a m
fits_take a m old actors away may room note =
    by x.place refl x.mail.letters refl (may_stays may_take (slot_at old a) x (same_at seat_of m.table.slots old actors a) (same_at is_away m.table.slots old away a) ∙ may)
  where
    x : Slot
    x = slot_at m.table.slots a

    by : (p : Place) → x.place ≡ p → (letters : List Letter) → x.mail.letters ≡ letters → may_in may_take p letters ≡ true → FitsTake a m
    by (Home c) home [] is on = let z = (idle_and c.frame false on).1 in cc
    by (Home c) home (letter ∷ later) is on = record {
      cell = c;
      home = home;
      letter = letter;
      later = later;
      letters = is;
      idle = (idle_and c.frame true on).0;
      room = room c home letter later is;
      note = λ _. note;
    }
    by (Away c) home letters is on = cc
    by Gone home letters is on = cc

-- but for room all is the same where the actors, and what is to be heard, are
pub only_room : (old new : Parts) → new.detector.state ≡ old.detector.state → new.prints.items ≡ old.prints.items → new.objects ≡ old.objects
    → actors_of new.table.slots ≡ actors_of old.table.slots → away_of new.table.slots ≡ away_of old.table.slots → new.notes.items ≡ old.notes.items
    → TellsOnly (TableTells old.table.slots) [] (TableTells new.table.slots) → (TableLies old.table.slots → TableLies new.table.slots)
    → new.blocks ≡ old.blocks → OnlyRoom old new
only_room old new detector prints objects actors away notes told lie blocks = record {
  state = λ program options. λ i. record {
    program = program;
    options = options;
    actors = actors i;
    detector = detector i;
    notes = notes i;
    prints = prints i;
    objects = objects i;
  };
  away = away;
  told = told;
  lie = lie;
  blocks = blocks;
}

-- all of it is, where nothing changed
pub same_room : (m : Parts) → OnlyRoom m m
same_room m = record { state = λ p o. refl; away = refl; told = still_told m.table.slots; lie = λ lies. lies; blocks = refl }

pub same_core : (m : Core) → KeepsCore m m
same_core m = record { alike = record { code = refl; options = refl }; room = same_room m.parts }

-- or another turn was found
pub found_core : (m : Core) (turn : Turn) (turned : Turned) (stands : Bool)
    → KeepsCore m (record m { parts = record m.parts { turn = turn; turned = turned }; stands = stands })
found_core m turn turned stands = record {
  alike = record { code = refl; options = refl };
  room = record { state = λ p o. refl; away = refl; told = still_told m.parts.table.slots; lie = λ lies. lies; blocks = refl };
}

-- own rows lie in blocks still where the places are the same
pub still_lies : (old new : List Slot) → places_of new ≡ places_of old → TableLies old → TableLies new
still_lies old new places lies a = subst PlaceLies (sym (same_at (λ x. x.place) new old places a)) (lies a)

-- ---- how the preparing of an event ends

-- the event is not enabled, or its actor's cell is away
refused : {T : Type 0} (e : Event) (m : Core) → next_in m e ≡ NotEnabled → Prepares {T = T} e m m (Err faults.NotEnabled)
refused e m off = record {
  same = same_core m;
  ok = tt;
  fault = off;
  stands = λ well. well;
}

-- it was refused after something was found
pub refused_in : {T : Type 0} (e : Event) (m mid : Core) → KeepsCore m mid → StandsWell mid → (r : Result T StepFault) (fault : StepFault) → r ≡ Err fault
    → IsFaultIn m e fault → Prepares e m mid r
refused_in e m mid same well r fault is so = subst (Prepares e m mid) (sym is) (record { same = same; ok = tt; fault = so; stands = λ _. well })

-- whether its actor may do it, at home
abbrev may_own : List Slot → Event → Bool
may_own slots e = option_map_or (λ a. may_event e (slot_at slots a)) (actor_of e) true

not_enabled : (m : Core) (e : Event) → may_own m.parts.table.slots e ≡ false → next_in m e ≡ NotEnabled
not_enabled m (Take a) off = no_step may_take (take (core_state m) a) m.parts.table.slots a off
not_enabled m (Go a) off = no_step may_go (go m.options.trace (core_state m) a) m.parts.table.slots a off
not_enabled m (Collect a) off = no_step may_collect (collect m.options.trace (core_state m) a) m.parts.table.slots a off
not_enabled m (Leave a) off = no_step may_leave (leave (core_state m) a) m.parts.table.slots a off
not_enabled m (Block a) off = no_step may_block (block (core_state m) a) m.parts.table.slots a off
not_enabled m Hear off = cc
not_enabled m Scan off = cc
not_enabled m (Reap number) off = cc

module _ (e : Event) (m : Core) (a : ℕ) (its : actor_of e ≡ Some a) where
  abbrev place : Slot
  place = slot_at m.parts.table.slots a

  -- the fault is right where the actor may not do it, or its cell is away
  pub right_fault : (fault : StepFault) → RefusedBy (may_event e place) fault → IsFaultIn m e fault
  right_fault faults.NotEnabled off = not_enabled m e (ap (λ o. option_map_or (λ b. may_event e (slot_at m.parts.table.slots b)) o true) its ∙ off)
  right_fault (faults.ActorsFull b) none = absurd none
  right_fault (faults.NoRows b) none = absurd none
  right_fault faults.NoMemory none = tt

  -- so is that of one of which the table lends no cell
  pub not_lent : {T : Type 0} → None ≡ (if may_event e place then home_of place else None) → Prepares {T = T} e m m (Err faults.NotEnabled)
  not_lent none = refused e m (right_fault faults.NotEnabled (not_acting e place none))

module _ {T : Type 0} (e : Event) (m : Core) (parts : Parts) (room : OnlyRoom m.parts parts) (turn : KeepsTurn m.parts parts) where
  prepares_by : (r : Result T StepFault) → OnOk r (FitsEvent m.options m.code.now e parts) → IfErr r (IsFaultIn m e)
      → Prepares e m (record m { parts = parts }) r
  prepares_by r ok fault = record {
    same = record { alike = record { code = refl; options = refl }; room = room };
    ok = ok;
    fault = fault;
    stands = λ well on. still_awaited m.options.trace m.code.now m.parts parts room turn (well on);
  }

  -- what was found fits
  pub prepared : {x : T} → FitsEvent m.options m.code.now e parts → Prepares e m (record m { parts = parts }) (Ok x)
  prepared {x} fits = prepares_by (Ok x) fits tt

  -- it was refused otherwise
  pub refused_by : (r : Result T StepFault) (fault : StepFault) → r ≡ Err fault → IsFaultIn m e fault → Prepares e m (record m { parts = parts }) r
  refused_by r fault is so = subst (Prepares e m (record m { parts = parts })) (sym is) (prepares_by (Err fault) tt so)

  -- memory was refused
  pub no_memory : Prepares {T = T} e m (record m { parts = parts }) (Err faults.NoMemory)
  no_memory = prepares_by (Err faults.NoMemory) tt tt

-- ---- a collection, and what stays

-- who acts at its place does so where the places and the letters stay
pub acts_still : (e : Event) (a : ℕ) (old new : List Slot) (Q : Cell → Type 0) → places_of new ≡ places_of old → letters_in new ≡ letters_in old
    → ActsAt e (slot_at old a) Q → ActsAt e (slot_at new a) Q
acts_still e a old new Q places rows acts = record {
  cell = acts.cell;
  home = same_at (λ x. x.place) new old places a ∙ acts.home;
  may = ap (λ mail. may_do (as_cell acts.cell) mail e) (same_at (λ x. x.mail.letters) new old rows a) ∙ acts.may;
  so = acts.so;
}

-- the sweep of a cell gives back what this does not mark
pub collects_with : (trace : Trace) (a : ℕ) (found : Sweep) (x : Slot) → ActsAt (Collect a) x (λ c. (c.heap.owner ≡ a) × (found ≡ sweep_of trace c))
    → ActsAt (Collect a) x (CollectsWith trace a found)
collects_with trace a found x acts =
    let c = acts.cell in
    record {
      cell = c;
      home = acts.home;
      may = acts.may;
      so = record {
        found_is = acts.so.1;
        back_is = ap (λ (f : Sweep). f.plan.back) acts.so.1 ∙ back_same c.count c.heap c.foreign (is_marked trace c.heap.owner (as_cell c))
            ∙ ap (λ me. by_owner (given_back (is_marked trace me (as_cell c)) (as_cell c).holdings)) acts.so.0;
      };
    }

-- at most one letter returns what goes back to an owner
pub once_back : (trace : Trace) (found : Sweep) (c : Cell) → found ≡ sweep_of trace c → (b : ℕ) → letters_to b (receivers found.plan.back) ≤ 1
once_back trace found c is b =
    let marked = is_marked trace c.heap.owner (as_cell c) in
    subst (λ (f : Sweep). letters_to b (receivers f.plan.back) ≤ 1) (sym is)
    (once_each (sweep_of trace c).plan.back (back_rises marked (holdings_of 0 c.heap c.foreign)).owners b)
