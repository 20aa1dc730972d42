-- A seat that has its turn is cut in two.
use Rattle.std.proofs.Common.{◌≡◌, ℕ, ◌≤◌, List, [], ◌∷◌, ◌++◌, map, set, sum_by, sym, refl, ap, ◌∙◌, subst, arith}
use Rattle.std.proofs.lemmas.List.Sums.{sum_by_push}
use mathlib.Core.Option.{some}
use mathlib.Core.List.{map-append}
use lib.Seq.{map-set}
use Rattle.atomic_table.specs.Table.{Splits}
use Rattle.atomic_table.proofs.Lists.{at_longer, at_map}
use Rattle.turn_log.specs.declared.rule.Known.{Known}
use Rattle.turn_log.specs.declared.table.SeatView.{SeatView}
use Rattle.turn_log.specs.declared.table.Stage.{Stage}
use Rattle.turn_log.specs.declared.table.Stage.TheVariants.{HasTurn}
use Rattle.turn_log.specs.Knowing.{half}
use Rattle.turn_log.specs.Owed.{MaySplit}
use Rattle.turn_log.specs.Queue.{IsAtStage, IsRuled, Queue, known_of, slot, tickets, turns_of, user_words}
use Rattle.turn_log.specs.Seats.{idle}
use Rattle.turn_log.proofs.Queues.{comes, stays, still_heard}
use Rattle.turn_log.proofs.Putters.{nothing_put, putters, putters_more}
use Rattle.turn_log.proofs.Sums.{sum_set}

module _ {T I V : Type 0} (holds : List I → T → List (Known I V) → List ℕ → Type 0) (live : V → ℕ)
    (calm : V → Type 0) where
  pub splits : (id : ℕ) (d : SeatView T I V) (ticket : ℕ) (value : T) (left right : V → V)
      → d.stage ≡ HasTurn ticket value
      → 1 ≤ live (left d.known.client) → calm (right d.known.client)
      → MaySplit holds id d.known (half left d.known) (half right d.known)
      → Splits (IsRuled holds live calm) id d (record d { known = half left d.known }) (idle (half right d.known))
  splits id d ticket value left right turn lives calm_right may s r at =
      let q = r.queue in
      let mine = r.seats.each id d at in
      let had : tickets d.stage ≡ 1 = ap tickets turn in
      let w : SeatView T I V = record d { known = half left d.known } in
      let o : SeatView T I V = idle (half right d.known) in
      let views : List (SeatView T I V) = set s.views id w in
      let turning = sum_set turns_of s.views id d w at in
      let more = sum_by_push turns_of views o in
      let still : sum_by turns_of (views ++ o ∷ []) ≡ sum_by turns_of s.views = omega arith in record {
        queue = q;
        wide = r.wide;
        deep = r.deep;
        length_is = r.length_is;
        ticket_is = r.ticket_is;
        served_is = r.served_is;
        small = r.small;
        slot_is = r.slot_is ∙ ap (λ n. some (slot q.value n)) (sym still);
        seats = comes live calm q views (half right d.known)
            (λ id. record { stage = calm_right; may = omega arith; saw = mine.saw; heard = mine.heard })
            (stays live calm q q.value q.log s.views id d w at r.seats refl (λ j e _ _ f. f)
            (record { stage = keeps_turn q d.stage turn mine.stage; may = omega arith; saw = mine.saw; heard = mine.heard }));
        puts = putters_more (user_words s.words) views o (nothing_put (user_words s.words) (half right d.known))
            (putters (user_words s.words) s.views id w
            (record { stand = (r.puts id d at).stand; turn = (r.puts id d at).turn }) r.puts);
        whole = let h = still_heard live calm q.log s.views id d w at refl r.whole in
            (h.0, h.1, at_longer views (o ∷ []) h.0 h.1 h.2, h.3);
        kept = subst (λ ps. holds q.log q.value ps (user_words s.words))
            (sym (map-append known_of views (o ∷ []) ∙ ap (λ z. z ++ known_of o ∷ []) (map-set known_of s.views id w)))
            (may q.log q.value (map known_of s.views) (user_words s.words) r.kept (at_map known_of s.views id d at));
      }
    where
      keeps_turn : (q : Queue T I) (stage : Stage T) → stage ≡ HasTurn ticket value
          → IsAtStage live calm q id stage d.known
          → IsAtStage live calm q id stage (half left d.known)
      keeps_turn q stage is stands = subst (λ (z : Stage T). IsAtStage live calm q id z (half left d.known)) (sym is)
          (subst (λ (z : Stage T). IsAtStage live calm q id z d.known) is stands)
