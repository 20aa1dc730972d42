-- Who draws a ticket stands last in the queue.
use Rattle.std.proofs.Common.{◌≡◌, ◌≢◌, ℕ, ◌+◌, ◌%◌, ◌^◌, ◌<◌, ◌≤◌, List, map, get_or, set, sum_by, sym, refl, ap, ◌∙◌, subst, arith, length-set, get_or-set_other, get_or-set_same, Option}
use mathlib.Core.Option.{some, none}
use Rattle.atomic_table.specs.Table.{Allows, Me, keeps, step}
use Rattle.turn_log.specs.declared.rule.Known.{Known}
use Rattle.turn_log.specs.declared.table.SeatView.{SeatView}
use Rattle.turn_log.specs.declared.table.Stage.{Stage}
use Rattle.turn_log.specs.declared.table.Stage.TheVariants.{Idle, Waits, HasTurn}
use Rattle.turn_log.specs.Queue.{Queue, IsAtStage, IsRuled, known_of, slot, tickets, turns, turns_of, user_words}
use Rattle.turn_log.specs.Seats.{view_of}
use Rattle.turn_log.specs.Told.{drew}
use Rattle.turn_log.proofs.Places.{put, put_else, put_here}
use Rattle.turn_log.proofs.Queues.{has_place, moves, same_passes, still_heard}
use Rattle.turn_log.proofs.Putters.{nothing_put_at, putters, putters_words}
use Rattle.turn_log.proofs.Sums.{sum_set}
use Rattle.turn_log.proofs.UserWords.{queue_word}

module _ {T I V : Type 0} (holds : List I → T → List (Known I V) → List ℕ → Type 0) (live : V → ℕ)
    (calm : V → Type 0) where
  -- the queue with one more at its end
  abbrev with_last : Queue T I → ℕ → Queue T I
  with_last q id = record q { long = q.long + 1; place = put q.place id q.long }

  stands : (q : Queue T I) (id j : ℕ) (d : SeatView T I V) (stage : Stage T) → j ≢ id
      → IsAtStage live calm q j stage d.known → IsAtStage live calm (with_last q id) j stage d.known
  stands q id j d Idle other at = at
  stands q id j d (Waits t) other at =
      let p = put_else q.place id q.long j other in let a = at.1 in
      (at.0, omega arith, at.2 ∙ ap (λ (z : ℕ). (q.served + z) % 18446744073709551616) (sym p))
  stands q id j d (HasTurn t x) other at =
      let b = at.1 in (put_else q.place id q.long j other ∙ at.0, omega arith, at.2, at.3, at.4)

  is_idle : (q : Queue T I) (id : ℕ) (k : Known I V) (stage : Stage T) → stage ≡ Idle
      → IsAtStage live calm q id stage k → calm k.client
  is_idle q id k stage idle at = subst (λ (z : Stage T). IsAtStage live calm q id z k) idle at

  pub draws : (slots id : ℕ) (me : Me (Option T) (SeatView T I V)) → me.0.stage ≡ Idle
      → 1 ≤ live me.0.known.client
      → Allows (IsRuled holds live calm) slots id me 1 (λ n. (n + 1) % 2 ^ 64) (drew (step slots 1 1 0 none) me)
  draws slots id me idle may s r deep at fits =
      let ticket : ℕ = get_or s.words 1 0 in
      let next : ℕ = (ticket + 1) % 18446744073709551616 in
      let q = r.queue in
      let w : SeatView T I V = view_of (Waits ticket) me.0.known in
      let mine = r.seats.each id me.0 at in
      let wide = r.wide in
      let old = r.ticket_is in
      let had : tickets me.0.stage ≡ 0 = ap tickets idle in
      let stood : turns me.0.stage ≡ 0 = ap turns idle in
      let here = put_here q.place id q.long in
      let turning = sum_set turns_of s.views id me.0 w at in
      let still : sum_by turns_of (set s.views id w) ≡ sum_by turns_of s.views = omega arith in (
        w,
        keeps,
        tt,
        record {
          queue = with_last q id;
          wide = let n = length-set s.words 1 next in omega arith;
          deep = r.deep;
          length_is = get_or-set_other s.words 1 0 next 0 (λ e. omega arith) ∙ r.length_is;
          ticket_is = let now = get_or-set_same s.words 1 next 0 (omega arith) in omega arith;
          served_is = get_or-set_other s.words 1 2 next 0 (λ e. omega arith) ∙ r.served_is;
          small = r.small;
          slot_is = r.slot_is ∙ ap (λ n. some (slot q.value n)) (sym still);
          seats = moves live calm q (with_last q id) s.views id me.0 w at r.seats (omega arith)
              (λ j d other there f. record { stage = stands q id j d d.stage other f.stage; may = f.may; saw = f.saw; heard = f.heard })
              (record {
                stage = (
                  is_idle q id me.0.known me.0.stage idle mine.stage,
                  subst (λ (z : ℕ). z < q.long + 1) (sym here) (omega arith),
                  old ∙ ap (λ (z : ℕ). (q.served + z) % 18446744073709551616) (sym here),
                );
                may = may;
                saw = mine.saw;
                heard = mine.heard;
              })
              (λ j k d e a b _ _ _ _ p. sym (put_else q.place id q.long j a) ∙ (p ∙ put_else q.place id q.long k b))
              (λ k e other there _ has p.
              let l = has_place live calm q k e.known e.stage (r.seats.each k e there).stage has in
              let p' : q.long ≡ q.place k = sym here ∙ (p ∙ put_else q.place id q.long k other) in omega arith);
          puts = putters_words s.words 1 next (set s.views id w) (omega arith)
              (putters (user_words s.words) s.views id w (nothing_put_at (user_words s.words) (Waits ticket) me.0.known) r.puts);
          whole = still_heard live calm q.log s.views id me.0 w at refl r.whole;
          kept = subst (λ ws. holds q.log q.value (map known_of (set s.views id w)) ws)
              (sym (queue_word s.words 1 next (omega arith)))
              (same_passes live calm holds q s.views (user_words s.words) id me.0 (Waits ticket) at r.kept);
        },
        refl,
      )
