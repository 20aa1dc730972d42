-- What a hall keeps, whatever is done with it.
use Rattle.std.proofs.Common.{◌≡◌, ◌≢◌, ℕ, zero, suc, ◌+◌, ◌<◌, ◌≤◌, Bool, true, false, List, [], ◌∷◌, ◌++◌, length, Option, Some, None, refl, sym, ap, ◌∙◌, subst, arith, set, get_or, is_some, length-set, length-append, get_or-set_other, get_or-set_same}
use Rattle.std.specs.Prelude.{if◌then◌else◌, nat_lt}
use Rattle.std.specs.Option.{option_and_then, option_map_or}
use Rattle.std.proofs.lemmas.Bool.Decides.{nat_tests}
use Rattle.std.proofs.lemmas.List.Sums.{count_by-le-length}
use mathlib.Core.Logic.{dite}
use native.Mathlib.Decide.{ℕ_discrete}
use Rattle.orca_names.specs.declared.limits.TheConstants.{ACTORS_LIMIT}
use Rattle.behaviour_code.specs.declared.code.Program.{Program}
use Rattle.event_rule.specs.Events.{actor_of}
use Rattle.event_rule.specs.Runs.{Goes}
use Rattle.event_rule.specs.declared.event.Event.{Event}
use Rattle.event_rule.specs.declared.event.Event.TheVariants.{Reap}
use Rattle.letter_kinds.specs.Detector.{Token, has}
use Rattle.machine_rules.specs.Actors.{cell_at, cell_of}
use Rattle.machine_rules.specs.Detect.{acked_token}
use Rattle.machine_rules.specs.Next.{next}
use Rattle.machine_rules.specs.State.{State}
use Rattle.machine_rules.proofs.Enabling.{enabled_exactly}
use Rattle.machine_rules.proofs.Guards.{acked_open}
use Rattle.run_book.specs.Books.{BookValue, options_of_book}
use Rattle.count_laws.proofs.bounds.Bounding.{runs_make_few}
use Rattle.orca_parts.specs.Away.{KeepsAway, is_out, is_out_for}
use Rattle.orca_core.specs.Machine.{IsSame, Machine, ReapsNoneAway, cell_here}
use Rattle.hall_rules.specs.Causes.{event_at}
use Rattle.hall_rules.specs.Kept.{IsRunWithin}
use Rattle.hall_rules.proofs.Keeping.{still}
use Rattle.seat_hall.specs.Halls.{ClaimedAreBusy, HallKeeps}
use Rattle.seat_hall.specs.Log.{claim_for, claim_in, grown}
use Rattle.seat_hall.specs.Rooms.{RoomsView}
use Rattle.seat_hall.proofs.Busy.{busy_made, busy_of, event_of, none_reaped, others_leave_busy, stands_apart}
use Rattle.seat_hall.proofs.Claims.{claim_grown, claim_set, claim_unset, not_its}
use Rattle.seat_hall.proofs.Counts.{claim_inside, counted_grown, counted_less, counted_more, one_more_fits}
use Rattle.seat_hall.proofs.Growing.{grows_by_one}

-- what is set to the value of those that are not there is not there
unset : (xs : List Bool) (a : ℕ) → get_or (set xs a false) a false ≡ false
unset [] a = refl
unset (x ∷ xs) zero = refl
unset (x ∷ xs) (suc a) = unset xs a

-- one place more, where there is one actor more
long_grown : (n : ℕ) (claims : List (Option ℕ)) → length claims ≤ n → n ≤ length claims + 1 → length (grown n claims) ≡ n
long_grown n claims low high = by (nat_lt (length claims) n) refl
  where
    by : (b : Bool) → nat_lt (length claims) n ≡ b → length (if b then claims ++ None ∷ [] else claims) ≡ n
    by true is = let less : length claims < n = grind (arith, nat_tests) in let l = length-append claims (None ∷ []) in omega arith
    by false is = let more : n ≤ length claims = grind (arith, nat_tests) in omega arith

module _ (program : Program) (budget : ℕ) (m : Machine) (book : BookValue) (claims : List (Option ℕ)) (rooms : RoomsView)
    (kept : HallKeeps program budget m book claims rooms) where
  -- ---- whose cells are away

  pub free_is_home : (a : ℕ) → claim_in claims a ≡ None → is_out m.out a ≡ false
  free_is_home a free = kept.away a ∙ ap is_some free

  -- that of the actor of an event on which no claim is out is at home
  pub event_is_home : (e : Event) → claim_for e claims ≡ None → is_out_for m.out e ≡ false
  event_is_home e free = by (actor_of e) free
    where
      by : (who : Option ℕ) → option_and_then (claim_in claims) who ≡ None → option_map_or (is_out m.out) who false ≡ false
      by None free = refl
      by (Some a) free = free_is_home a free

  -- ---- nothing reaps a claimed actor

  heavy : 0 < book.weight
  heavy = let w : 2 ≤ book.weight = kept.one.weight.0 in omega arith

  spared : (number : ℕ) (t : Token) (a : ℕ) → acked_token number m.state.detector ≡ Some t → has t.members a ≡ true
      → (c : Option ℕ) → claim_in claims a ≡ c → is_out m.out a ≡ false
  spared number t a acked member None free = free_is_home a free
  spared number t a acked member (Some p) mine =
      let open_is = acked_open number m.state.detector t acked in
      let none = none_reaped program (options_of_book book) book.entries m.state heavy kept.one.run a
      (busy_of m.state a (kept.busy a p mine)) number t ((enabled_exactly m.state (Reap number)).1 (t, acked)) open_is.0 in
      absurd (let clash : true ≡ false = sym member ∙ none in cc)

  pub reaps_none_away : (e : Event) → ReapsNoneAway e m
  reaps_none_away (Reap number) = λ t a acked member. spared number t a acked member (claim_in claims a) refl
  reaps_none_away e = tt

  pub few_claims : length claims ≤ ACTORS_LIMIT
  few_claims =
      let few = runs_make_few program (options_of_book book) book.entries m.state kept.one.run in
      let s = kept.sized in omega arith

  -- ---- a claim

  -- a room is out where a claim is
  pub room_is_out : (a pass : ℕ) → claim_in claims a ≡ Some pass → 0 < rooms.out
  room_is_out a pass mine =
      let less = counted_less is_some refl claims a (Some pass) (claim_inside claims a pass mine) mine refl in
      let c = kept.counted in omega arith

  -- no more are out than there are actors
  pub few_out : rooms.out ≤ length claims
  few_out = let c = kept.counted in let most = count_by-le-length is_some claims in omega arith

  -- with more free rooms
  pub kept_rooms : (more : RoomsView) → more.out ≡ rooms.out → rooms.free ≤ more.free
      → HallKeeps program budget m book claims more
  kept_rooms more out free = record {
    one = kept.one;
    none = kept.none;
    away = kept.away;
    sized = kept.sized;
    counted = out ∙ kept.counted;
    enough = let e = kept.enough in omega arith;
    busy = kept.busy;
  }

  -- of an actor that has an event, and on which no claim is out
  module _ (a : ℕ) (free : claim_in claims a ≡ None) (e : Event) (has_it : event_at m.state a ≡ Some e) where
    busy : event_at m.state a ≢ None
    busy none = let clash : None ≡ Some e = sym none ∙ has_it in cc

    inside : a < length claims
    inside = let b = busy_made m.state a (busy_of m.state a busy) in let s = kept.sized in omega arith

    -- its cell is here
    pub is_here : cell_here m a ≢ None
    is_here none =
        let there = busy_of m.state a busy in
        let clash : None ≡ Some there.cell = sym none
        ∙ (ap (λ b. if b then None else cell_at m.state.actors a) (free_is_home a free) ∙ ap cell_of there.present) in cc

    -- a room is free for it
    pub room_is_free : 0 < rooms.free
    room_is_free = let fits = one_more_fits claims a inside free in let c = kept.counted in let e = kept.enough in omega arith

    -- with its cell lent
    pub kept_claimed : (n : Machine) (pass : ℕ) → n.state ≡ m.state → n.steps ≡ m.steps → n.out ≡ set m.out a true
        → n.blocks ≡ m.blocks → is_out n.out a ≡ true → (less : RoomsView) → less.free + 1 ≡ rooms.free → less.out ≡ rooms.out + 1
        → HallKeeps program budget n book (set claims a (Some pass)) less
    kept_claimed n pass state steps out blocks lent_is less one_less one_out = record {
      one = still program budget m book kept.one n book refl state steps refl;
      none = blocks ∙ kept.none;
      away = λ b. dite (ℕ_discrete b a)
          (λ same. subst (λ (x : ℕ). is_out n.out x ≡ is_some (claim_in (set claims a (Some pass)) x)) (sym same)
          (lent_is ∙ sym (ap is_some (get_or-set_same claims a (Some pass) None inside))))
          (λ apart. ap (λ o. is_out o b) out ∙ (get_or-set_other m.out a b true false apart
          ∙ (kept.away b ∙ sym (ap is_some (claim_set claims a b (Some pass) apart)))));
      sized = length-set claims a (Some pass) ∙ (kept.sized ∙ ap (λ (s : State). length s.actors) (sym state));
      counted = one_out ∙ ap (λ (k : ℕ). k + 1) kept.counted ∙ sym (counted_more is_some refl claims a (Some pass) inside free refl);
      enough = let l = length-set claims a (Some pass) in let e = kept.enough in omega arith;
      busy = subst (λ s. ClaimedAreBusy s (set claims a (Some pass))) (sym state) (λ b q mine. dite (ℕ_discrete b a)
          (λ same. subst (λ (x : ℕ). event_at m.state x ≢ None) (sym same) busy)
          (λ apart. kept.busy b q (sym (claim_set claims a b (Some pass) apart) ∙ mine)));
    }

  pub kept_ended : (n : Machine) (a pass : ℕ) → n.state ≡ m.state → n.steps ≡ m.steps → n.out ≡ set m.out a false
      → n.blocks ≡ m.blocks → claim_in claims a ≡ Some pass → (more : RoomsView) → more.free ≡ rooms.free + 1 → more.out + 1 ≡ rooms.out
      → HallKeeps program budget n book (set claims a None) more
  kept_ended n a pass state steps out blocks mine more one_more one_in = record {
    one = still program budget m book kept.one n book refl state steps refl;
    none = blocks ∙ kept.none;
    away = λ b. dite (ℕ_discrete b a)
        (λ same. subst (λ (x : ℕ). is_out n.out x ≡ is_some (claim_in (set claims a None) x)) (sym same)
        (ap (λ o. is_out o a) out ∙ (unset m.out a ∙ sym (ap is_some (claim_unset claims a)))))
        (λ apart. ap (λ o. is_out o b) out ∙ (get_or-set_other m.out a b false false apart
        ∙ (kept.away b ∙ sym (ap is_some (claim_set claims a b None apart)))));
    sized = length-set claims a None ∙ (kept.sized ∙ ap (λ (s : State). length s.actors) (sym state));
    counted = let c = counted_less is_some refl claims a (Some pass) (claim_inside claims a pass mine) mine refl in
        let k = kept.counted in omega arith;
    enough = let l = length-set claims a None in let e = kept.enough in omega arith;
    busy = subst (λ s. ClaimedAreBusy s (set claims a None)) (sym state) (λ b q is. dite (ℕ_discrete b a)
        (λ same. absurd (let clash : None ≡ Some q = sym (claim_unset claims a) ∙ (ap (claim_in (set claims a None)) (sym same) ∙ is) in cc))
        (λ apart. kept.busy b q (sym (claim_set claims a b None apart) ∙ is)));
  }

  -- ---- an entry

  module _ (n : Machine) (after : BookValue) (one : IsRunWithin program (options_of_book after) budget n.state n.steps after.entries)
      (away : KeepsAway m.out n.out) where
    -- with an entry more
    pub kept_entered : (e : Event) → claim_for e claims ≡ None → next m.state e ≡ Goes n.state → n.blocks ≡ [] → length claims < rooms.free + rooms.out
        → HallKeeps program budget n after (grown (length n.state.actors) claims) rooms
    kept_entered e free goes none spare =
        let grew = grows_by_one m.state n.state e goes in let all = grew.kept in let at_most = grew.one in let s = kept.sized in record {
          one = one;
          none = none;
          away = λ a. away a ∙ (kept.away a ∙ sym (ap is_some (claim_grown (length n.state.actors) claims a)));
          sized = long_grown (length n.state.actors) claims (omega arith) (omega arith);
          counted = kept.counted ∙ sym (counted_grown is_some refl (length n.state.actors) claims);
          enough = let l = long_grown (length n.state.actors) claims (omega arith) (omega arith) in omega arith;
          busy = λ a p is.
              let mine : claim_in claims a ≡ Some p = sym (claim_grown (length n.state.actors) claims a) ∙ is in
              let b = busy_of m.state a (kept.busy a p mine) in
              let apart = stands_apart program (options_of_book book) book.entries m.state n.state a e heavy kept.one.run b
              (not_its e claims a p free mine) goes in
              event_of n.state a (others_leave_busy m.state n.state a e apart goes b).1;
        }

    -- unchanged but for room
    pub kept_same : IsSame m n → HallKeeps program budget n after claims rooms
    kept_same same = record {
      one = one;
      none = same.blocks ∙ kept.none;
      away = λ a. away a ∙ kept.away a;
      sized = kept.sized ∙ ap (λ (s : State). length s.actors) (sym same.state);
      counted = kept.counted;
      enough = kept.enough;
      busy = subst (λ s. ClaimedAreBusy s claims) (sym same.state) kept.busy;
    }
