-- Who passes the turn on gives the slot back, and all others go up by a place.
use Rattle.std.proofs.Common.{◌≡◌, ◌≢◌, ℕ, ◌+◌, ◌-◌, ◌%◌, ◌^◌, ◌<◌, List, [], ◌∷◌, map, get_or, set, sum_by, sym, refl, ap, ◌∙◌, subst, arith, length-set, get_or-set_other, get_or-set_same, Option, Some}
use mathlib.Core.Logic.{dite}
use mathlib.Core.Option.{some, none}
use native.Mathlib.Decide.{ℕ_discrete}
use lib.ListN.{get_elem?}
use Rattle.atomic_table.specs.Table.{Act, Allows, Me, Valid, carried_after, gives, step, stepped}
use Rattle.atomic_table.proofs.Lists.{at_set, set_here}
use Rattle.turn_log.specs.declared.rule.Known.{Known}
use Rattle.turn_log.specs.declared.table.SeatView.{SeatView}
use Rattle.turn_log.specs.declared.table.Stage.{Stage}
use Rattle.turn_log.specs.declared.table.Stage.TheVariants.{Idle, Waits, HasTurn}
use Rattle.turn_log.specs.Queue.{Queue, IsAtStage, IsRuled, known_of, slot, tickets, turns, turns_of, user_words}
use Rattle.turn_log.specs.Seats.{idle}
use Rattle.turn_log.specs.Told.{passed}
use Rattle.turn_log.proofs.Queues.{moves, others_wait, same_passes, still_heard}
use Rattle.turn_log.proofs.Putters.{nothing_put, putters, putters_words}
use Rattle.turn_log.proofs.Sums.{no_terms}
use Rattle.turn_log.proofs.UserWords.{queue_word}
use Rattle.std.proofs.Common.{⊎_elim}

module _ {T I V : Type 0} (holds : List I → T → List (Known I V) → List ℕ → Type 0) (live : V → ℕ)
    (calm : V → Type 0) where
  -- the queue without its first
  abbrev without_first : Queue T I → Queue T I
  without_first q = record q { long = q.long - 1; served = (q.served + 1) % 2 ^ 64; place = λ j. q.place j - 1 }

  goes_up : (q : Queue T I) (j : ℕ) (k : Known I V) (stage : Stage T) → turns stage ≡ 0
      → (0 < tickets stage → 0 < q.place j) → IsAtStage live calm q j stage k
      → IsAtStage live calm (without_first q) j stage k
  goes_up q j k Idle z behind at = at
  goes_up q j k (Waits t) z behind at =
      let a = at.1 in let b = at.2 in let u = behind (omega arith) in (at.0, omega arith, omega arith)
  goes_up q j k (HasTurn t x) z behind at = absurd (omega arith)

  pub passes : (slots id : ℕ) (me : Me (Option T) (SeatView T I V)) (ticket : ℕ) (value : T)
      → me.0.stage ≡ HasTurn ticket value → me.1 ≡ (0, Some value) ∷ [] → calm me.0.known.client
      → Allows (IsRuled holds live calm) slots id me 2 (λ n. (n + 1) % 2 ^ 64) (passed (step slots 2 1 0 none) me)
  passes slots id me ticket value turn lies calm_now s r deep at fits =
      let q = r.queue in
      let k = me.0.known in
      let mine = r.seats.each id me.0 at in
      let stage = subst (λ (z : Stage T). IsAtStage live calm q id z k) turn mine.stage in
      let had : tickets me.0.stage ≡ 1 = ap tickets turn in
      let some_long = stage.1 in
      let served = r.served_is in
      let next : ℕ = (get_or s.words 2 0 + 1) % 18446744073709551616 in
      let wide = r.wide in
      let w : SeatView T I V = idle k in
      let small = r.small in
      let first = stage.0 in
      let alone = others_wait live calm q s.views id me.0 r.seats at (omega arith) first in
      let behind : (j : ℕ) (d : SeatView T I V) → j ≢ id → get_elem? s.views j ≡ some d
      → 0 < tickets d.stage → 0 < q.place j =
      λ j d other there has. dite (ℕ_discrete (q.place j) 0)
      (λ z. absurd (other (r.seats.apart j id d me.0 there at has (omega arith) (z ∙ sym first))))
      (λ n. omega arith) in
      let nobody : sum_by turns_of (set s.views id w) ≡ 0 = no_terms turns_of (set s.views id w) (λ j d there. ⊎_elim
      (λ (t : (j ≡ id) × (w ≡ d)). ap (λ (z : SeatView T I V). turns z.stage) (sym t.1))
      (λ (t : (j ≢ id) × (get_elem? s.views j ≡ some d)). alone j d t.0 t.1)
      (at_set s.views id j w d there)) in
      let step_of : List (ℕ × Option T) → Type 0 = λ cs. (w' : SeatView T I V) × (act : Act (Option T)) × Valid s.homes cs act
      × IsRuled holds live calm (stepped s 2 next id cs w' act)
      × passed (step slots 2 1 0 none) me (get_or s.words 2 0) (w', carried_after cs act) in
      subst step_of (sym lies) (
        w,
        gives,
        tt,
        record {
          queue = without_first q;
          wide = let n = length-set s.words 2 next in omega arith;
          deep = length-set s.homes 0 (some (Some value)) ∙ r.deep;
          length_is = get_or-set_other s.words 2 0 next 0 (λ e. omega arith) ∙ r.length_is;
          ticket_is = let t = get_or-set_other s.words 2 1 next 0 (λ e. omega arith) in let u = r.ticket_is in omega arith;
          served_is = get_or-set_same s.words 2 next 0 (omega arith) ∙ ap (λ (z : ℕ). (z + 1) % 18446744073709551616) served;
          small = omega arith;
          slot_is = set_here s.homes 0 (some (Some value)) (let d = r.deep in omega arith)
              ∙ ((λ i. some (some (Some (stage.3 i)))) ∙ ap (λ n. some (slot q.value n)) (sym nobody));
          seats = moves live calm q (without_first q) s.views id me.0 w at r.seats (omega arith)
              (λ j d other there f. record {
                stage = goes_up q j d.known d.stage (alone j d other there) (behind j d other there) f.stage;
                may = f.may;
                saw = f.saw;
                heard = f.heard;
              })
              (record { stage = calm_now; may = omega arith; saw = mine.saw; heard = mine.heard })
              (λ j l d e c f g h u v p. let m = behind j d c g u in let o = behind l e f h v in omega arith)
              (λ l e other there z _ _. absurd (omega arith));
          puts = putters_words s.words 2 next (set s.views id w) (omega arith)
              (putters (user_words s.words) s.views id w (nothing_put (user_words s.words) k) r.puts);
          whole = still_heard live calm q.log s.views id me.0 w at refl r.whole;
          kept = subst (λ ws. holds q.log q.value (map known_of (set s.views id w)) ws)
              (sym (queue_word s.words 2 next (omega arith)))
              (same_passes live calm holds q s.views (user_words s.words) id me.0 Idle at r.kept);
        },
        refl,
      )
