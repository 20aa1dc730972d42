-- Why claims and entries are refused, and that where nothing refuses an event is of a free actor.
use Rattle.std.proofs.Common.{◌≡◌, ℕ, ◌==◌, true, not, List, [], ◌∷◌, ◌++◌, length, Option, Some, None, Result, Ok, Err, refl, sym, ap, ◌∙◌, subst, arith, set}
use Rattle.std.specs.Prelude.{if◌then◌else◌}
use Rattle.std.specs.Option.{option_and_then, option_map_or, option_or}
use Rattle.std.proofs.lemmas.Bool.Decides.{nat_tests}
use Rattle.event_rule.specs.Events.{actor_of}
use Rattle.event_rule.specs.declared.event.Event.{Event}
use Rattle.machine_rules.specs.Next.{next}
use Rattle.work_board.specs.declared.answers.Committed.{Committed}
use Rattle.work_board.specs.declared.answers.Refuse.{Refuse}
use Rattle.hall_rules.specs.Answers.{IsEntered}
use Rattle.hall_rules.specs.Causes.{IsRefusal, early_cause, full_cause}
use Rattle.hall_rules.specs.Claims.{holder, holder_for}
use Rattle.hall_rules.proofs.Refusing.{nobody_holds}
use Rattle.seat_hall.specs.declared.item.Item.TheVariants.{Ended, Entered}
use Rattle.seat_hall.specs.Answers.{EntersOr}
use Rattle.seat_hall.specs.Halls.{HallView, says}
use Rattle.seat_hall.specs.Log.{Logged, after, claim_for, claim_in, claims_in, entry_cause, grown, listed, plain, released, state_in}
use Rattle.seat_hall.proofs.Claims.{claim_unset, holder_is, of_another, of_any, unset_twice}

-- the one who holds the event's actor is told by its place
pub held_is : (e : Event) (claims : List (Option ℕ)) → claim_for e claims ≡ holder_for None e (listed 0 claims)
held_is e claims i = option_and_then (λ a. (sym (of_any (claim_in claims a)) ∙ sym (holder_is None a claims)) i) (actor_of e)

-- where no claim is out on it, nobody holds it
held_by_none : (asker : Option ℕ) (e : Event) (claims : List (Option ℕ)) → claim_for e claims ≡ None → holder_for asker e (listed 0 claims) ≡ None
held_by_none asker e claims free = by (actor_of e) free
  where
    by : (who : Option ℕ) → option_and_then (claim_in claims) who ≡ None → option_and_then (λ a. holder asker a (listed 0 claims)) who ≡ None
    by None free = refl
    by (Some a) free = holder_is asker a claims ∙ ap (of_another asker) free

module _ (l : Logged) (e : Event) where
  -- the cause, where this pass holds the event's actor
  abbrev whole : Option ℕ → Option Refuse
  whole holder = option_or (early_cause (state_in l) (length l.book) l.budget holder e) (full_cause (next (state_in l) e) e)

  -- no claim is out on the actor of an event that is not refused to nobody
  pub event_is_free : entry_cause l None e ≡ None → claim_for e l.claims ≡ None
  event_is_free none = held_is e l.claims ∙ nobody_holds (plain l) None e none

  -- an event that is refused to nobody is refused to no pass
  pub none_for : (pass : ℕ) → entry_cause l None e ≡ None → entry_cause l (Some pass) e ≡ None
  none_for pass none =
      let free = event_is_free none in
      ap whole (held_by_none (Some pass) e l.claims free ∙ sym (held_by_none None e l.claims free)) ∙ none

  -- ---- a commit puts the cell back first

  module _ (pass a : ℕ) (its : actor_of e ≡ Some a) (mine : claim_in l.claims a ≡ Some pass) where
    abbrev ended : Logged
    ended = after l (Ended pass a)

    -- who commits is refused as nobody is once its claim has ended
    pub own_cause : entry_cause ended None e ≡ entry_cause l (Some pass) e
    own_cause = ap whole (held_by_none None e (set l.claims a None) unset ∙ sym own)
      where
        same : (pass == pass) ≡ true
        same = grind (arith, nat_tests)

        unset : claim_for e (set l.claims a None) ≡ None
        unset = ap (option_and_then (claim_in (set l.claims a None))) its ∙ claim_unset l.claims a

        own : holder_for (Some pass) e (claims_in l) ≡ None
        own =
            ap (option_and_then (λ b. holder (Some pass) b (claims_in l))) its ∙ (holder_is (Some pass) a l.claims
            ∙ (ap (of_another (Some pass)) mine ∙ ap (λ b. if not b then Some pass else None) same))

    -- and its entry leads to the same hall
    pub own_entered : after ended (Entered pass e) ≡ after l (Entered pass e)
    own_entered = ap (λ claims. record l {
      book = l.book ++ e ∷ [];
      claims = grown (length (state_in (record l { book = l.book ++ e ∷ [] })).actors) claims;
    }) (set_released (set l.claims a None) ∙ (unset_twice l.claims a ∙ sym (set_released l.claims)))
      where
        set_released : (claims : List (Option ℕ)) → released e claims ≡ set claims a None
        set_released claims = ap (λ who. option_map_or (λ a. set claims a None) who claims) its

    -- ---- what is answered then

    pub own_answers : (r : Result Committed Refuse) (g : HallView) → EntersOr None pass e ended (says ended (Ended pass a)) r g
        → EntersOr (Some pass) pass e l (says ended (Ended pass a)) r g
    own_answers (Ok done) g is = (
      record {
        may = sym own_cause ∙ is.0.may;
        entered = subst (λ (m : Logged). IsEntered (plain l) e done (plain m)) own_entered (record {
          place = is.0.entered.place;
          book = is.0.entered.book;
          goes = is.0.entered.goes;
          woke = is.0.entered.woke;
        });
      },
      is.1 ∙ ap (λ m. says m (Entered pass e)) own_entered,
    )
    own_answers (Err refuse) g is = (subst (λ cause. IsRefusal cause refuse) own_cause is.0, is.1)
