-- An event that is tried becomes an entry, or all stays as it was.
use Rattle.std.proofs.Common.{◌≡◌, ◌+◌, ◌<◌, ◌≤◌, ℕ, Bool, false, List, length, Option, None, Some, Ok, Err, sym, subst, ◌∙◌}
use Rattle.std.specs.Global.{Box}
use Rattle.std.specs.Option.{ForSome}
use Rattle.behaviour_code.specs.declared.code.Program.{Program}
use Rattle.event_rule.specs.declared.event.Event.{Event}
use Rattle.run_book.specs.Books.{BookValue, options_of_book}
use Rattle.actor_cell.specs.declared.found.Found.{Found}
use Rattle.orca_parts.specs.Away.{KeepsAway, is_out_for}
use Rattle.orca_core.specs.Machine.{IsFoundIn, Machine}
use Rattle.work_board.specs.declared.answers.Committed.{Committed}
use Rattle.work_board.specs.declared.answers.Refuse.{Refuse}
use Rattle.hall_rules.specs.Causes.{actor_cause, early_cause}
use Rattle.hall_rules.specs.Entering.{Enters, MayEnter, Refuses}
use Rattle.hall_rules.proofs.Entries.{entered, keeps, leads_to, may_enter, refused_early, refused_late}
use Rattle.hall_rules.proofs.Keeping.{options_alike}
use Rattle.hall_rules.proofs.Refusing.{has_actor, unheld}
use Rattle.seat_hall.specs.declared.item.Item.TheVariants.{Entered}
use Rattle.seat_hall.specs.Answers.{EntersOr, RefusesEntry}
use Rattle.seat_hall.specs.Halls.{HallKeeps, HallView, says}
use Rattle.seat_hall.specs.Log.{Logged, after, claim_for, claim_in, grown, listed}
use Rattle.seat_hall.specs.Rooms.{RoomsView}
use Rattle.seat_hall.proofs.Causes.{held_is}
use Rattle.seat_hall.proofs.Claims.{released_free}
use Rattle.seat_hall.proofs.Kept.{event_is_home, kept_entered, kept_rooms, kept_same, reaps_none_away}

-- a hall with this book and these claims
abbrev pub logged_of : Program → ℕ → BookValue → List (Option ℕ) → Bool → ℕ → Logged
logged_of program budget book claims stopped made = record {
  program = program;
  options = options_of_book book;
  budget = budget;
  book = book.entries;
  claims = claims;
  stopped = stopped;
  made = made;
}

module _ (program : Program) (budget : ℕ) (m : Machine) (book : BookValue) (claims : List (Option ℕ)) (rooms : RoomsView)
    (kept : HallKeeps program budget m book claims rooms) (e : Event) (holder : Option ℕ) (held : holder ≡ claim_for e claims) where
  -- the cell of an actor that does not refuse its event is at home
  pub actor_is_home : actor_cause m.state holder e ≡ None → is_out_for m.out e ≡ false
  actor_is_home none = event_is_home program budget m book claims rooms kept e
      (unheld m.state e (claim_in claims) (subst (λ h. actor_cause m.state h e ≡ None) held none))

  pub refuses_early : (stopped : Bool) (made : ℕ) (refuse : Refuse) → Some refuse ≡ early_cause m.state (length book.entries) budget holder e
      → RefusesEntry None e refuse (logged_of program budget book claims stopped made)
  refuses_early stopped made = refused_early program budget m book kept.one holder e (listed 0 claims) stopped None (held ∙ held_is e claims)

  module _ (none : None ≡ early_cause m.state (length book.entries) budget holder e) where
    free : claim_for e claims ≡ None
    free = unheld m.state e (claim_in claims)
        (subst (λ h. actor_cause m.state h e ≡ None) held (has_actor m.state (length book.entries) budget e holder (sym none)))

    pub is_home : is_out_for m.out e ≡ false
    is_home = event_is_home program budget m book claims rooms kept e free

    pub may_try : (place : Option (Box Found)) → ForSome place (λ known. IsFoundIn e known.value m) → MayEnter e place m
    may_try = may_enter program budget m book kept.one holder e none is_home kept.none (reaps_none_away program budget m book claims rooms kept e)

    module _ (n : Machine) (after_it : BookValue) (away : KeepsAway m.out n.out)
        (alike : (after_it.weight ≡ book.weight) × (after_it.trace ≡ book.trace)) where
      -- what the hall keeps then, with more rooms
      module _ (more : RoomsView) (out : more.out ≡ rooms.out) (room : rooms.free ≤ more.free) where
        roomy : HallKeeps program budget m book claims more
        roomy = kept_rooms program budget m book claims rooms kept more out room

        pub keeps_entry : (done : Committed) → Enters e done m n book after_it → length claims < more.free + more.out
            → HallKeeps program budget n after_it (grown (length n.state.actors) claims) more
        keeps_entry done is = kept_entered program budget m book claims more roomy n after_it
            (keeps program budget m book kept.one holder e none n after_it alike (Ok done) is tt) away e free is.goes is.none

        pub keeps_all : (refuse : Refuse) → Refuses e refuse m n book after_it → HallKeeps program budget n after_it claims more
        keeps_all refuse is = kept_same program budget m book claims more roomy n after_it
            (keeps program budget m book kept.one holder e none n after_it alike (Err refuse) tt is) away is.same

      -- what is answered
      module _ (stopped : Bool) (made : ℕ) where
        abbrev was : Logged
        was = logged_of program budget book claims stopped made

        pub enters : (pass : ℕ) (refused : HallView) (done : Committed) → Enters e done m n book after_it
            → EntersOr None pass e was refused (Ok done)
            (says (logged_of program budget after_it (grown (length n.state.actors) claims) stopped made) (Entered pass e))
        enters pass refused done is =
            let all = entered program budget m book kept.one holder e (listed 0 claims) stopped None (held ∙ held_is e claims) none n after_it
            done (listed 0 (after was (Entered pass e)).claims) is in
            let came = leads_to program budget m book kept.one holder e n is.goes in (
              record { may = all.0; entered = all.1 },
              (λ i. says (record was {
                options = options_alike book after_it alike i;
                book = is.entry i;
                claims = grown (length (came i).actors) (sym (released_free e claims free) i);
              }) (Entered pass e)),
            )

        pub refuses_late : (refuse : Refuse) → Refuses e refuse m n book after_it → RefusesEntry None e refuse was
        refuses_late refuse is = refused_late program budget m book kept.one holder e (listed 0 claims) stopped None (held ∙ held_is e claims)
            none refuse is.cause
