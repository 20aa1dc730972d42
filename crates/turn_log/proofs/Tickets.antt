-- Two seats at one place of the queue are one.
use Rattle.std.proofs.Common.{◌≡◌, ℕ, ◌+◌, ◌%◌, ◌<◌, List, sym, ap, ◌∙◌, subst, ⊎_elim, arith, Option}
use mathlib.Core.Option.{some}
use lib.ListN.{get_elem?}
use Rattle.atomic_table.specs.Table.{State}
use Rattle.turn_log.specs.declared.rule.Known.{Known}
use Rattle.turn_log.specs.declared.table.SeatView.{SeatView}
use Rattle.turn_log.specs.declared.table.Stage.{Stage}
use Rattle.turn_log.specs.declared.table.Stage.TheVariants.{Waits, HasTurn}
use Rattle.turn_log.specs.Laws.{HasTicket, IsAt, OneHasTurn, TicketsDiffer}
use Rattle.turn_log.specs.Queue.{IsAtStage, IsRuled, tickets, user_words}
use Rattle.turn_log.proofs.Queues.{few}

module _ {T I V : Type 0} (holds : List I → T → List (Known I V) → List ℕ → Type 0) (live : V → ℕ)
    (calm : V → Type 0) where
  -- a seat that stands in the queue at this place
  record Stands (s : State (Option T) (SeatView T I V)) (r : IsRuled holds live calm s) (id place : ℕ) : Type 0 where
    view : SeatView T I V
    there : get_elem? s.views id ≡ some view
    has : 0 < tickets view.stage
    at : r.queue.place id ≡ place

  same_place : (s : State (Option T) (SeatView T I V)) (r : IsRuled holds live calm s) (j k p q : ℕ)
      → Stands s r j p → Stands s r k q → p ≡ q → j ≡ k
  same_place s r j k p q one other same =
      r.seats.apart j k one.view other.view one.there other.there one.has other.has (one.at ∙ (same ∙ sym other.at))

  stage_of : (s : State (Option T) (SeatView T I V)) (r : IsRuled holds live calm s) (id : ℕ) (stage : Stage T) (is : IsAt s id stage)
      → IsAtStage live calm r.queue id stage is.0.known
  stage_of s r id stage is = subst (λ (z : Stage T). IsAtStage live calm r.queue id z is.0.known) is.2 (r.seats.each id is.0 is.1).stage

  has_turn : (s : State (Option T) (SeatView T I V)) (r : IsRuled holds live calm s) (id t : ℕ) (x : T)
      → IsAt s id (HasTurn t x) → Stands s r id 0
  has_turn s r id t x is = record {
    view = is.0;
    there = is.1;
    has = let one : tickets is.0.stage ≡ 1 = ap tickets is.2 in omega arith;
    at = (stage_of s r id (HasTurn t x) is).0;
  }

  waits : (s : State (Option T) (SeatView T I V)) (r : IsRuled holds live calm s) (id t : ℕ)
      → IsAt s id (Waits t) → Stands s r id (r.queue.place id)
  waits s r id t is = record {
    view = is.0;
    there = is.1;
    has = let one : tickets is.0.stage ≡ 1 = ap tickets is.2 in omega arith;
    at = λ _. r.queue.place id;
  }

  pub one_turn : OneHasTurn holds live calm
  one_turn s r j k t u x y one other = same_place s r j k 0 0 (has_turn s r j t x one) (has_turn s r k u y other) (λ _. 0)

  -- the place of a ticket
  place_of : (s : State (Option T) (SeatView T I V)) (r : IsRuled holds live calm s) (id t : ℕ)
      → HasTicket s id t
      → (place : ℕ) × Stands s r id place × (place < r.queue.long) × (t ≡ (r.queue.served + place) % 18446744073709551616)
  place_of s r id t has = ⊎_elim
      (λ is. let stage = stage_of s r id (Waits t) is in (r.queue.place id, waits s r id t is, stage.1, stage.2))
      (λ is. let stage = stage_of s r id (HasTurn t is.0) is.1 in let served = stage.2 in let small = r.small in
      (0, has_turn s r id t is.0 is.1, stage.1, omega arith))
      has

  pub ticket_is_one : TicketsDiffer holds live calm
  ticket_is_one bounded s r j k t one other =
      let p = place_of s r j t one in let q = place_of s r k t other in
      let bound = few live calm holds r.queue s.views (user_words s.words) bounded r.kept r.seats in
      let pl = p.2 in let ql = q.2 in let pt = p.3 in let qt = q.3 in let small = r.small in
      same_place s r j k p.0 q.0 p.1 q.1 (omega arith)
