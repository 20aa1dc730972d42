-- What the first cause tells, and that none is there.
use Rattle.std.proofs.Common.{◌≡◌, ℕ, ◌+◌, ◌≤◌, ◌==◌, Bool, true, false, length, Option, Some, None, refl, sym, arith}
use Rattle.std.specs.Prelude.{if◌then◌else◌}
use Rattle.std.specs.Option.{option_and_then, option_or}
use Rattle.std.proofs.lemmas.Bool.Decides.{nat_tests}
use Rattle.event_rule.specs.Events.{actor_of}
use Rattle.event_rule.specs.declared.event.Event.{Event}
use Rattle.machine_rules.specs.Next.{next}
use Rattle.machine_rules.specs.State.{State}
use Rattle.work_board.specs.declared.answers.Refuse.{Refuse}
use Rattle.work_board.specs.declared.answers.Refuse.TheVariants.{Budget, NoMemory}
use Rattle.hall_rules.specs.Causes.{IsRefusal, absent_cause, actor_cause, busy_cause, early_cause, entry_cause, spent_cause, unready_cause}
use Rattle.hall_rules.specs.Claims.{holder, holder_for}
use Rattle.hall_rules.specs.Halls.{HallValue, hall_state}

pub or_none : (q r : Option Refuse) → option_or q r ≡ None → (q ≡ None) × (r ≡ None)
or_none None r none = (refl, none)
or_none (Some x) r none = absurd (cc)

-- the cause that is there is a refusal
pub refusal_is : (cause : Option Refuse) (refuse : Refuse) → Some refuse ≡ cause → IsRefusal cause refuse
refusal_is cause NoMemory is = tt
refusal_is cause refuse is = sym is

-- a book that isn't as long as the budget has room for an entry
pub room_for_one : (long budget : ℕ) → long ≤ budget → spent_cause long budget ≡ None → long + 1 ≤ budget
room_for_one long budget within none = by (long == budget) refl none
  where
    by : (full : Bool) → (long == budget) ≡ full → (if full then Some (Budget long) else None) ≡ None → long + 1 ≤ budget
    by true is none = absurd (cc)
    by false is none = grind (arith, nat_tests)

-- nobody has a claim on an actor on which none is refused as busy
pub none_holds : (holder : Option ℕ) → busy_cause holder ≡ None → holder ≡ None
none_holds None none = refl
none_holds (Some pass) none = absurd (cc)

-- where nothing refuses the event before it is tried
module _ (s : State) (long budget : ℕ) (e : Event) (holder : Option ℕ) (none : early_cause s long budget holder e ≡ None) where
  parts : (actor_cause s holder e ≡ None) × (unready_cause (next s e) ≡ None) × (spent_cause long budget ≡ None)
  parts =
      let early = or_none (actor_cause s holder e) _ none in
      let late = or_none (unready_cause (next s e)) (spent_cause long budget) early.1 in (early.0, late.0, late.1)

  pub has_actor : actor_cause s holder e ≡ None
  has_actor = parts.0

  pub is_ready : unready_cause (next s e) ≡ None
  is_ready = parts.1

  pub has_room : spent_cause long budget ≡ None
  has_room = parts.2

-- none has a claim on the actor of an event that its actor does not refuse
pub unheld : (s : State) (e : Event) (held : ℕ → Option ℕ) → actor_cause s (option_and_then held (actor_of e)) e ≡ None
    → option_and_then held (actor_of e) ≡ None
unheld s e held none = by (actor_of e) none
  where
    by : (who : Option ℕ) → option_and_then (λ a. option_or (absent_cause s a) (busy_cause (option_and_then held who))) who ≡ None
        → option_and_then held who ≡ None
    by None is = refl
    by (Some a) is = none_holds (held a) (or_none (absent_cause s a) _ is).1

pub nobody_holds : (h : HallValue) (asker : Option ℕ) (e : Event) → entry_cause h asker e ≡ None → holder_for asker e h.claims ≡ None
nobody_holds h asker e none =
    let who = holder_for asker e h.claims in
    let early = (or_none (early_cause (hall_state h) (length h.book) h.budget who e) _ none).0 in
    unheld (hall_state h) e (λ a. holder asker a h.claims) (has_actor (hall_state h) (length h.book) h.budget e who early)
