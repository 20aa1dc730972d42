-- The book of a log is a run.
use Rattle.std.proofs.Common.{◌≡◌, ℕ, ◌+◌, ◌≤◌, List, [], ◌∷◌, ◌++◌, length, refl, subst, arith, Option, Some, None, length-append}
use Rattle.std.specs.Option.{option_map}
use Rattle.orca_names.specs.declared.options.Options.{Options}
use Rattle.behaviour_code.specs.declared.code.Program.{Program}
use Rattle.event_rule.specs.Events.{actor_of}
use Rattle.event_rule.specs.Runs.{Goes, IsFull, NotEnabled, Step}
use Rattle.event_rule.specs.declared.event.Event.{Event}
use Rattle.machine_rules.proofs.Enabling.{full_exactly}
use Rattle.machine_rules.specs.Next.{next}
use Rattle.machine_rules.specs.Run.{IsRun}
use Rattle.machine_rules.specs.State.{State, first_state}
use Rattle.orca_core.proofs.Reached.{leads_more}
use Rattle.work_board.specs.declared.answers.Refuse.TheVariants as why
use Rattle.hall_rules.specs.Causes.{early_cause, full_cause, unready_cause}
use Rattle.hall_rules.specs.Claims.{holder_for}
use Rattle.hall_rules.proofs.Leading.{leads_after}
use Rattle.hall_rules.proofs.Refusing.{has_room, is_ready, or_none, room_for_one}
use Rattle.seat_hall.specs.declared.item.Item.{Item}
use Rattle.seat_hall.specs.declared.item.Item.TheVariants.{Claimed, Entered, Ended, Stopped, Made}
use Rattle.seat_hall.specs.Log.{Legal, Logged, MayFollow, after, begins, claims_in, entry_cause, hall_from, state_in}
use Rattle.seat_hall.specs.Stands.{BooksAreRuns}
use Rattle.seat_hall.proofs.Logs.{terms_of}

-- what no cause refuses can happen
pub record CanEnter (l : Logged) (e : Event) : Type 0 where
  pub after_it : State
  pub goes : next (state_in l) e ≡ Goes after_it
  pub room : length l.book + 1 ≤ l.budget

abbrev pub IsRunOf : Logged → Type 0
IsRunOf l = IsRun l.program l.options l.book (state_in l) × (length l.book ≤ l.budget)

pub can_enter : (l : Logged) (asker : Option ℕ) (e : Event) → length l.book ≤ l.budget
    → entry_cause l asker e ≡ None → CanEnter l e
can_enter l asker e within none =
    let s : State = state_in l in
    let held = holder_for asker e (claims_in l) in let long = length l.book in
    let c = or_none (early_cause s long l.budget held e) _ none in
    let g = goes (next s e) refl (is_ready s long l.budget e held c.0) c.1 in
    record { after_it = g.0; goes = g.1; room = room_for_one long l.budget within (has_room s long l.budget e held c.0) }
  where
    goes : (step : Step State) → next (state_in l) e ≡ step → unready_cause step ≡ None → full_cause step e ≡ None
        → (t : State) × (next (state_in l) e ≡ Goes t)
    goes NotEnabled is off none = absurd (cc)
    goes IsFull is off none =
        let refused = (full_exactly (state_in l) e).0 is in
        let some : Some (why.Full refused.actor) ≡ None =
        subst (λ (f : Event). option_map why.Full (actor_of f) ≡ None) refused.is_go none in absurd (cc)
    goes (Goes t) is off none = (t, is)

pub run_one : (l : Logged) (i : Item) → IsRunOf l → MayFollow l i → IsRunOf (after l i)
run_one l (Claimed pass actor) run may = run
run_one l (Entered pass event) run may =
    let can = can_enter l (Some pass) event run.1 may.1 in
    let start : State = first_state l.program l.options in
    let more = leads_more l.book start (state_in l) can.after_it event run.0 can.goes in
    let room = can.room in let long = length-append l.book (event ∷ []) in (
      subst (IsRun l.program l.options (l.book ++ event ∷ []))
          (leads_after (l.book ++ event ∷ []) start can.after_it more) more,
      omega arith,
    )
run_one l (Ended pass actor) run may = run
run_one l (Stopped pass) run may = run
run_one l (Made pass) run may = run

pub runs : (l : Logged) (log : List Item) → IsRunOf l → Legal l log → IsRunOf (hall_from l log)
runs l [] run legal = run
runs l (i ∷ log) run legal = runs (after l i) log (run_one l i run legal.0) legal.1

pub books_run : BooksAreRuns
books_run program options budget log legal =
    let start : Logged = begins program options budget in
    let last : Logged = hall_from start log in
    let terms = terms_of program options budget log in
    subst (λ (x : Program × Options × ℕ). IsRun x.0 x.1 last.book (state_in last) × (length last.book ≤ x.2))
    (λ i. (terms.program_is i, terms.options_is i, terms.budget_is i)) (runs start log (refl, omega arith) legal)
