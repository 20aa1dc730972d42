-- The first enabled event of all, and of the actors that are not set aside, by the rounds of the
-- one-worker order.
use Rattle.std.proofs.Common.{◌≡◌, ◌≢◌, ◌≤◌, ◌<◌, ◌==◌, ◌||◌, ◌&&◌, ℕ, suc, Bool, true, false, List, [], ◌∷◌, length, get_or, not, Option, Some, None, inl, inr, refl, sym, ap, subst, ◌∙◌, arith, ⊎_elim}
use Rattle.std.specs.Prelude.{is_none, is_some, position, MatchOption}
use Rattle.std.specs.Option.{option_map_or}
use Rattle.std.specs.List.{position_or_len}
use Rattle.std.proofs.lemmas.Bool.{cases_Bool, cases_lt, or_cases, or_left, or_right}
use Rattle.std.proofs.lemmas.List.{get_or_past}
use Rattle.std.proofs.lemmas.List.Quantifiers.{position-Some}
use Rattle.std.proofs.lemmas.List.Sums.{fails_before_first}
use Rattle.event_rule.specs.Events.{actor_of, actor_or_token, round_of, is_of, is_of_detector}
use Rattle.event_rule.specs.Runs.{IsFirst, IsQuiet, NotEnabled}
use Rattle.event_rule.specs.declared.event.Event.{Event}
use Rattle.event_rule.specs.declared.event.Event.TheVariants.{Take, Go, Collect, Leave, Block, Hear, Scan, Reap}
use Rattle.event_rule.proofs.Ordered.{Upto}
use Rattle.letter_kinds.specs.Letters.{Letter}
use Rattle.machine_rules.specs.Actors.{Seat}
use Rattle.machine_rules.specs.Guards.{may_block, may_collect, may_go, may_leave, may_take}
use Rattle.machine_rules.specs.State.{State}
use Rattle.plain_list.specs.Lists.{is_empty}
use Rattle.turn_rules.specs.declared.act.Frame.{Frame}
use Rattle.actor_cell.specs.Cells.{as_cell}
use Rattle.actor_table.specs.declared.slot.Slot.{Slot}
use Rattle.actor_table.specs.declared.slot.Place.{Place}
use Rattle.actor_table.specs.declared.slot.Place.TheVariants.{Home, Away, Gone}
use Rattle.actor_table.specs.declared.rounds.Round.{Round}
use Rattle.actor_table.specs.declared.rounds.Round.TheVariants.{Acting, Settling}
use Rattle.actor_table.specs.Rounds.{IsNextThat, has_event}
use Rattle.actor_table.specs.Slots.{actors_of, acts, away_of, can_act, can_settle, event_of, gone, is_away_in, may_at, may_in, seat_in, settles, slot_at}
use Rattle.orca_parts.specs.Away.{next_without}
use Rattle.orca_core.specs.Firsts.{HasFirst, is_free, next_of_kind}
use Rattle.orca_core.proofs.Enabled.{Can, IsFound, any, enabled_here, first_of_kind, in_kind, of_kind, quiet_of_kind}
use Rattle.orca_core.proofs.Firsts.{first_of_actor}
use Rattle.event_rule.proofs.Order.{itself, off, own, number_of, of_number, of_rest, rounds_rise, upto_by}

-- ---- who has events

-- an actor acts where its cell is at home and may go on or take a letter
can_act_by : (x : Slot) → can_act x ≡ (may_at may_go x || may_at may_take x)
can_act_by x = by x.place x.mail.letters
  where
    by : (p : Place) (mail : List Letter) → (not (is_away_in p) && option_map_or acts (seat_in p mail) false)
        ≡ (may_in may_go p mail || may_in may_take p mail)
    by (Home c) mail = refl
    by (Away c) mail = refl
    by Gone mail = refl

-- who does not act settles where it may collect, leave or block
settles_by : (o : Seat) → acts o ≡ false
    → settles o ≡ (may_collect o.cell o.mail || (may_leave o.cell o.mail || may_block o.cell o.mail))
settles_by o =
    by o.cell.frame o.mail o.cell.dirty (o.cell.fields.pinned || o.cell.reported) (o.cell.holdings.count == 0)
  where
    by : (frame : Option Frame) (mail : List Letter) (dirty kept unheld : Bool)
        → (is_some frame || (is_none frame && not (is_empty mail))) ≡ false
        → (is_some frame || (dirty || not kept))
        ≡ ((is_none frame && dirty)
        || (((is_none frame && (is_empty mail && not (dirty || kept))) && unheld)
        || (is_none frame && (is_empty mail && not (dirty || kept)))))
    by (Some frame) mail dirty kept unheld idle = cc
    by None (letter ∷ mail) dirty kept unheld idle = cc
    by None [] true kept unheld idle = refl
    by None [] false true unheld idle = refl
    by None [] false false true idle = refl
    by None [] false false false idle = refl

-- and can do so where its cell is at home
can_settle_by : (x : Slot) → can_act x ≡ false
    → can_settle x ≡ (may_at may_collect x || (may_at may_leave x || may_at may_block x))
can_settle_by x = by x.place x.mail.letters
  where
    by : (p : Place) (mail : List Letter) → (not (is_away_in p) && option_map_or acts (seat_in p mail) false) ≡ false
        → (not (is_away_in p) && option_map_or settles (seat_in p mail) false)
        ≡ (may_in may_collect p mail || (may_in may_leave p mail || may_in may_block p mail))
    by (Home c) mail idle = settles_by (record { cell = as_cell c; mail = mail }) idle
    by (Away c) mail idle = refl
    by Gone mail idle = refl

-- where no element has the property, what stands at no place has it
none_at : {A : Type 0} (has : A → Bool) (xs : List A) (d : A) → has d ≡ false → None ≡ position has xs
    → (k : ℕ) → has (get_or xs k d) ≡ false
none_at has xs d past_off none k = ⊎_elim
    (λ (h : k < length xs). fails_before_first has xs k d (omega (arith, all)))
    (λ past. ap has (get_or_past xs k d past) ∙ past_off)
    (cases_lt k (length xs))
  where
    all : length xs ≤ position_or_len has xs
    all = ⊎_elim
        (λ (h : position_or_len has xs < length xs).
        absurd (let z : position has xs ≡ Some (position_or_len has xs) = grind (arith) in cc))
        (λ h. h)
        (cases_lt (position_or_len has xs) (length xs))

module _ (slots : List Slot) (away : List Bool) (s : State)
    (out : away ≡ away_of slots) (same : s.actors ≡ actors_of slots) where
  -- an event that can be and is of the kind is enabled of it
  on_in : (kind : Event → Bool) (f : Event) → kind f ≡ true → Can slots s f → next_of_kind kind away s f ≢ NotEnabled
  on_in kind f is can = in_kind (kind f) (next_without away s f) is ((enabled_here slots away s out same f).1 can)

  -- the first of a kind is the first of a wider one, where it comes before the others of that
  widened : (kind wide : Event → Bool) → ((f : Event) → kind f ≡ true → wide f ≡ true)
      → (found : Option Event) → IsFound kind away s found
      → ((f : Event) → wide f ≡ true → kind f ≡ false → Can slots s f → MatchOption found ⊥ (λ e. Upto e f))
      → IsFound wide away s found
  widened kind wide within None quiet others = quiet_of_kind slots away s out same wide
      (λ f its can. elim (cases_Bool (kind f)) as (λ _. ⊥) [
        | inl is ↦ on_in kind f is can (quiet f)
        | inr other ↦ others f its other can
      ])
  widened kind wide within (Some e) first others =
      let on = of_kind (kind e) (next_without away s e) first.enabled in
      first_of_kind slots away s out same wide e (within e on.0) ((enabled_here slots away s out same e).0 on.1)
      (λ f its can. elim (cases_Bool (kind f)) as (λ _. Upto e f) [
        | inl is ↦ first.least f (on_in kind f is can)
        | inr other ↦ others f its other can
      ])

  -- ---- rounds

  -- an event of the actor in the round that can be
  record HasEvent (r a : ℕ) : Type 0 where
    event : Event
    mine : is_of a event ≡ true
    can : Can slots s event
    round : round_of event ≡ r

  -- of the actors in play exactly those that have the property have an event in the round that can be
  record IsRound (in_play : ℕ → Bool) (r : ℕ) (has : Slot → Bool) : Type 0 where
    all : (f : Event) → in_play (actor_or_token f) ≡ true → Can slots s f → round_of f ≡ r
        → has (slot_at slots (actor_or_token f)) ≡ true
    some : (a : ℕ) → in_play a ≡ true → has (slot_at slots a) ≡ true → HasEvent r a

  -- who acts has an event of the first round
  acting : (in_play : ℕ → Bool) → IsRound in_play 0 can_act
  acting in_play = record { all = λ f plays. all f; some = λ a plays. some a }
    where
      all : (f : Event) → Can slots s f → round_of f ≡ 0 → can_act (slot_at slots (actor_or_token f)) ≡ true
      all (Go a) can is = can_act_by (slot_at slots a) ∙ or_left _ _ can
      all (Take a) can is = can_act_by (slot_at slots a) ∙ or_right _ _ can
      all f can is = absurd (omega (arith, is))

      some : (a : ℕ) → can_act (slot_at slots a) ≡ true → HasEvent 0 a
      some a on = ⊎_elim
          (λ goes. record { event = Go a; mine = itself a; can = goes; round = refl })
          (λ takes. record { event = Take a; mine = itself a; can = takes; round = refl })
          (or_cases _ _ (sym (can_act_by (slot_at slots a)) ∙ on))

  -- where nobody in play acts, who settles has an event of the second
  settling : (in_play : ℕ → Bool) → ((a : ℕ) → in_play a ≡ true → can_act (slot_at slots a) ≡ false)
      → IsRound in_play 1 can_settle
  settling in_play idle = record { all = all; some = some }
    where
      by : (a : ℕ) → in_play a ≡ true → can_settle (slot_at slots a)
          ≡ (may_at may_collect (slot_at slots a) || (may_at may_leave (slot_at slots a) || may_at may_block (slot_at slots a)))
      by a plays = can_settle_by (slot_at slots a) (idle a plays)

      all : (f : Event) → in_play (actor_or_token f) ≡ true → Can slots s f → round_of f ≡ 1
          → can_settle (slot_at slots (actor_or_token f)) ≡ true
      all (Collect a) plays can is = by a plays ∙ or_left _ _ can
      all (Leave a) plays can is = by a plays ∙ or_right _ _ (or_left _ _ can)
      all (Block a) plays can is = by a plays ∙ or_right _ _ (or_right _ _ can)
      all f plays can is = absurd (omega (arith, is))

      some : (a : ℕ) → in_play a ≡ true → can_settle (slot_at slots a) ≡ true → HasEvent 1 a
      some a plays on = ⊎_elim
          (λ collects. record { event = Collect a; mine = itself a; can = collects; round = refl })
          (λ reports. ⊎_elim
          (λ leaves. record { event = Leave a; mine = itself a; can = leaves; round = refl })
          (λ blocks. record { event = Block a; mine = itself a; can = blocks; round = refl })
          (or_cases _ _ reports))
          (or_cases _ _ (sym (by a plays) ∙ on))

  -- ---- a kind of events, by the actors that have them

  -- whoever is in play has all its events in the kind, and nobody else has events of the first rounds in it
  record IsOf (in_play : ℕ → Bool) (kind : Event → Bool) : Type 0 where
    all : (a : ℕ) → in_play a ≡ true → (f : Event) → is_of a f ≡ true → kind f ≡ true
    only : (f : Event) → kind f ≡ true → round_of f ≤ 1 → in_play (actor_or_token f) ≡ true

  -- no event of the kind before this round can be
  abbrev From : (Event → Bool) → ℕ → Type 0
  From kind r = (f : Event) → kind f ≡ true → Can slots s f → r ≤ round_of f

  module _ (in_play : ℕ → Bool) (kind : Event → Bool) (its : IsOf in_play kind) (r : ℕ) (early : r ≤ 1)
      (has : Slot → Bool) (round : IsRound in_play r has) (from : From kind r) where
    -- where nobody in play has an event in the round, none before the next can be
    later : ((k : ℕ) → in_play k ≡ true → has (slot_at slots k) ≡ false) → From kind (suc r)
    later none f is can = ⊎_elim
        (λ (h : r < round_of f). h)
        (λ h. let level : round_of f ≡ r = omega (arith, from f is can) in
        let n = actor_or_token f in
        let plays = its.only f is (omega arith) in
        off (has (slot_at slots n)) (none n plays) (round.all f plays can level))
        (cases_lt r (round_of f))

    -- the first event of the first actor in play that has one in it is the first of the kind
    first_in_round : (a : ℕ) → in_play a ≡ true → has (slot_at slots a) ≡ true
        → ((k : ℕ) → k < a → in_play k ≡ true → has (slot_at slots k) ≡ false)
        → (found : Option Event) → IsFound (is_of a) away s found
        → (e : Event) × (found ≡ Some e) × IsFirst (next_of_kind kind away) s e
    first_in_round a plays has_one none_before = by
      where
        g : HasEvent r a
        g = round.some a plays has_one

        g_on : next_of_kind (is_of a) away s g.event ≢ NotEnabled
        g_on = on_in (is_of a) g.event g.mine g.can

        -- none of a lower actor can be in the round
        from_a : (f : Event) → kind f ≡ true → Can slots s f → round_of f ≡ r → a ≤ actor_or_token f
        from_a f is can level = ⊎_elim
            (λ (lower : actor_or_token f < a). let its_actor_plays = its.only f is (omega arith) in
            off (has (slot_at slots (actor_or_token f)))
            (none_before (actor_or_token f) lower its_actor_plays) (round.all f its_actor_plays can level))
            (λ h. h)
            (cases_lt (actor_or_token f) a)

        by : (found : Option Event) → IsFound (is_of a) away s found
            → (e : Event) × (found ≡ Some e) × IsFirst (next_of_kind kind away) s e
        by None quiet = absurd (g_on (quiet g.event))
        by (Some e) first = (
          e,
          refl,
          widened (is_of a) kind (its.all a plays) (Some e) first (λ f is other can.
              let mine : is_of a e ≡ true = (of_kind (is_of a e) (next_without away s e) first.enabled).0 in
              let number : actor_or_token e ≡ a = number_of a e mine in
              let upto : round_of e ≤ round_of g.event = rounds_rise e g.event (first.least g.event g_on) in
              let after : r ≤ round_of f = from f is can in
              let round_g : round_of g.event ≡ r = g.round in
              upto_by e f (omega arith)
              (λ level. let still : round_of f ≡ r = omega arith in omega (arith, from_a f is can still))
              (λ level equal.
              off (is_of a f) other (subst (λ n. is_of n f ≡ true) (sym equal ∙ number) (of_number f (omega arith))))),
        )

  -- ---- the first of all

  abbrev everybody : ℕ → Bool
  everybody a = true

  of_everybody : IsOf everybody any
  of_everybody = record { all = λ a plays f is. refl; only = λ f is early. refl }

  module _ (r : ℕ) (early : r ≤ 1) (has : Slot → Bool) (past_off : has gone ≡ false) (round : IsRound everybody r has)
      (from : From any r) where
    none_from : None ≡ position has slots → From any (suc r)
    none_from none = later everybody any of_everybody r early has round from (λ k plays. none_at has slots gone past_off none k)

    first_from : (a : ℕ) → Some a ≡ position has slots → (found : Option Event)
        → IsFound (is_of a) away s found → IsFound any away s found
    first_from a at found first =
        let here = position-Some has slots a gone (sym at) in
        let z = first_in_round everybody any of_everybody r early has round from a refl here.1
        (λ k before plays. here.2 k before) found first in
        subst (IsFound any away s) (sym z.1) z.2

  -- the first event of the first actor that acts is the first of all
  pub first_acting : (a : ℕ) → Some a ≡ position can_act slots → (found : Option Event)
      → IsFound (is_of a) away s found → IsFound any away s found
  first_acting = first_from 0 (omega arith) can_act refl (acting everybody) (λ f is can. omega arith)

  module _ (none_acts : None ≡ position can_act slots) where
    -- where none acts, no event before the second round can be
    from_settling : From any 1
    from_settling = none_from 0 (omega arith) can_act refl (acting everybody) (λ f is can. omega arith) none_acts

    settling_of_all : IsRound everybody 1 can_settle
    settling_of_all = settling everybody (λ a plays. none_at can_act slots gone refl none_acts a)

    -- and the first event of the first actor that settles is the first of all
    pub first_settling : (a : ℕ) → Some a ≡ position can_settle slots → (found : Option Event)
        → IsFound (is_of a) away s found → IsFound any away s found
    first_settling = first_from 1 (omega arith) can_settle refl settling_of_all from_settling

    -- where none settles either, the detector's first event is the first of all
    pub first_of_rest : None ≡ position can_settle slots → (found : Option Event)
        → IsFound is_of_detector away s found → IsFound any away s found
    first_of_rest none_settles found first = widened is_of_detector any (λ f is. refl) found first (λ f is other can.
        off (is_of_detector f) other
        (of_rest f (none_from 1 (omega arith) can_settle refl settling_of_all from_settling none_settles f is can)))

  -- ---- the first of the actors that are not set aside

  module _ (is_aside : ℕ → Bool) where
    abbrev stays : ℕ → Bool
    stays a = not (is_aside a)

    -- an event of such an actor, and its first
    abbrev free : Event → Bool
    free = is_free is_aside

    abbrev IsFoundFree : Option ℕ → Type 0
    IsFoundFree found = MatchOption found (IsQuiet (next_of_kind free away) s) (HasFirst (next_of_kind free away) s)

    only_stays : (f : Event) → free f ≡ true → not (is_aside (actor_or_token f)) ≡ true
    only_stays Hear is = cc
    only_stays Scan is = cc
    only_stays (Reap number) is = cc
    only_stays f is = is

    of_free : IsOf stays free
    of_free = record {
      all = λ a plays. own (λ f. free f ≡ true) a plays plays plays plays plays;
      only = λ f is early. only_stays f is;
    }

    free_not_detector : (f : Event) → free f ≡ true → is_of_detector f ≡ false
    free_not_detector Hear is = cc
    free_not_detector Scan is = cc
    free_not_detector (Reap number) is = cc
    free_not_detector f is = refl

    -- an actor that has an event in the round and is not set aside
    abbrev in_round : Round → ℕ → Bool
    in_round round a = has_event round (slot_at slots a) && not (is_aside a)

    off_left : (b c : Bool) → (b && not c) ≡ false → not c ≡ true → b ≡ false
    off_left false c off stays = refl
    off_left true false off stays = off
    off_left true true off stays = cc

    both : (b c : Bool) → (b && c) ≡ true → (b ≡ true) × (c ≡ true)
    both true true on = (refl, refl)
    both true false on = cc
    both false c on = cc

    module _ (r : ℕ) (early : r ≤ 1) (round : Round) (is_round : IsRound stays r (has_event round)) (from : From free r) where
      none_free : IsNextThat (in_round round) 0 None → From free (suc r)
      none_free none = later stays free of_free r early (has_event round) is_round from
          (λ k plays. off_left (has_event round (slot_at slots k)) (is_aside k) (none k (omega arith)) plays)

      first_free_in : (a : ℕ) → IsNextThat (in_round round) 0 (Some a) → IsFoundFree (Some a)
      first_free_in a next =
          let here = both (has_event round (slot_at slots a)) (not (is_aside a)) next.1 in
          let first = first_of_actor slots away s out same a (event_of a (slot_at slots a)) refl in
          let z = first_in_round stays free of_free r early (has_event round) is_round from a here.1 here.0
          (λ k before plays. off_left (has_event round (slot_at slots k)) (is_aside k) (next.2 k (omega arith) before) plays)
          (event_of a (slot_at slots a)) first in
          let its : IsFound (is_of a) away s (Some z.0) = subst (IsFound (is_of a) away s) z.1 first in
          let mine = (of_kind (is_of a z.0) (next_without away s z.0) its.enabled).0 in
          (z.0, own (λ f. actor_of f ≡ Some a) a refl refl refl refl refl z.0 mine, z.2)

    -- who acts first of them has their first event
    pub free_acting : (a : ℕ) → IsNextThat (in_round Acting) 0 (Some a) → IsFoundFree (Some a)
    free_acting = first_free_in 0 (omega arith) Acting (acting stays) (λ f is can. omega arith)

    -- and where none acts, who settles first has; where none settles either, they have none
    pub free_settling : IsNextThat (in_round Acting) 0 None → (found : Option ℕ)
        → IsNextThat (in_round Settling) 0 found → IsFoundFree found
    free_settling none found next = by found next
      where
        from : From free 1
        from = none_free 0 (omega arith) Acting (acting stays) (λ f is can. omega arith) none

        settling_of_free : IsRound stays 1 can_settle
        settling_of_free = settling stays (λ a plays.
            off_left (can_act (slot_at slots a)) (is_aside a) (none a (omega arith)) plays)

        by : (found : Option ℕ) → IsNextThat (in_round Settling) 0 found → IsFoundFree found
        by (Some a) next = first_free_in 1 (omega arith) Settling settling_of_free from a next
        by None off_all = quiet_of_kind slots away s out same free (λ f is can.
            off (is_of_detector f) (free_not_detector f is)
            (of_rest f (none_free 1 (omega arith) Settling settling_of_free from off_all f is can)))
