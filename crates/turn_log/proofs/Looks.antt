-- Who finds its ticket served takes the slot.
use Rattle.std.proofs.Common.{◌≡◌, ℕ, List, [], ◌∷◌, map, get_or, length, set, sum_by, sym, refl, ap, ◌∙◌, subst, arith, length-set, append-nil, Option, Some}
use mathlib.Core.Logic.{dite}
use mathlib.Core.Option.{some, none}
use native.Mathlib.Decide.{ℕ_discrete}
use lib.ListN.{get_elem?}
use lib.Seq.{map-set, set-get_or}
use Rattle.atomic_table.specs.Table.{Allows, Me, State, keeps, step, takes}
use Rattle.atomic_table.proofs.Lists.{at_map, set_again, set_here}
use Rattle.turn_log.specs.declared.rule.Known.{Known}
use Rattle.turn_log.specs.declared.table.SeatView.{SeatView}
use Rattle.turn_log.specs.declared.table.Stage.{Stage}
use Rattle.turn_log.specs.declared.table.Stage.TheVariants.{Waits, HasTurn}
use Rattle.turn_log.specs.Knowing.{at_turn}
use Rattle.turn_log.specs.Owed.{FewTickets, MayLook}
use Rattle.turn_log.specs.Queue.{IsAtStage, IsPutter, IsRuled, known_of, slot, tickets, turns, turns_of, user_words}
use Rattle.turn_log.specs.Seats.{view_of}
use Rattle.turn_log.specs.Told.{looked}
use Rattle.turn_log.proofs.Places.{at_mine, at_one}
use Rattle.turn_log.proofs.Queues.{few, others_wait, stays}
use Rattle.turn_log.proofs.Putters.{nothing_put_at, putters}
use Rattle.turn_log.proofs.Sums.{no_terms, sum_set}

abbrev pub ticket_of : {T : Type 0} → Stage T → ℕ
ticket_of (Waits t) = t
ticket_of (HasTurn t x) = t
ticket_of _ = 0

module _ {T I V : Type 0} (holds : List I → T → List (Known I V) → List ℕ → Type 0) (live : V → ℕ)
    (calm : V → Type 0) (shows : Known I V → List I → T → Type 0) where
  -- while a seat waits at place 0, no seat has the turn
  none_turns : (s : State (Option T) (SeatView T I V)) (r : IsRuled holds live calm s) (id : ℕ) (me : SeatView T I V) (ticket : ℕ)
      → me.stage ≡ Waits ticket → get_elem? s.views id ≡ some me → r.queue.place id ≡ 0 → sum_by turns_of s.views ≡ 0
  none_turns s r id me ticket waits at first = no_terms turns_of s.views (λ j d there. dite (ℕ_discrete j id)
      (λ same. ap (λ (z : SeatView T I V). turns z.stage) (at_one s.views j id d me same there at) ∙ ap turns waits)
      (λ other. others_wait live calm r.queue s.views id me r.seats at
      (let has : tickets me.stage ≡ 1 = ap tickets waits in omega arith) first j d other there))

  pub looks : (slots id : ℕ) (me : Me (Option T) (SeatView T I V)) (ticket : ℕ) → me.0.stage ≡ Waits ticket
      → FewTickets holds live → MayLook holds shows
      → Allows (IsRuled holds live calm) slots id me 2 (λ n. n) (looked shows (step slots 2 0 0 none) me)
  looks slots id me ticket waits bounded may s r deep at fits =
      let q = r.queue in
      let found : ℕ = get_or s.words 2 0 in
      let served = r.served_is in
      let mine = r.seats.each id me.0 at in
      let stage = subst (λ (z : Stage T). IsAtStage live calm q id z me.0.known) waits mine.stage in
      let below = stage.1 in
      let is = stage.2 in
      let small = few live calm holds q s.views (user_words s.words) bounded r.kept r.seats in
      let small' = r.small in
      let with_turn : ℕ → Me (Option T) (SeatView T I V) = λ z.
      (view_of (HasTurn z q.value) (at_turn q.log me.0.known), (0, Some q.value) ∷ me.1) in
      dite (ℕ_discrete found ticket)
      (λ hit.
      let first : q.place id ≡ 0 = omega arith in
      let w : SeatView T I V = view_of (HasTurn ticket q.value) (at_turn q.log me.0.known) in
      let here = at_map known_of s.views id me.0 at in
      let shown = may q.log q.value (map known_of s.views) (user_words s.words) id me.0.known r.kept here mine.saw in
      let nobody = none_turns s r id me.0 ticket waits at first in
      let turning = sum_set turns_of s.views id me.0 w at in
      let stood : turns me.0.stage ≡ 0 = ap turns waits in
      let one : sum_by turns_of (set s.views id w) ≡ 1 = omega arith in
      let had : tickets me.0.stage ≡ 1 = ap tickets waits in
      let lives = mine.may in (
        w,
        takes 0 (Some q.value),
        r.slot_is ∙ ap (λ n. some (slot q.value n)) nobody,
        record {
          queue = q;
          wide = let n = ap length (set-get_or s.words 2 0) in let wide = r.wide in omega arith;
          deep = length-set s.homes 0 none ∙ r.deep;
          length_is = ap (λ (ws : List ℕ). get_or ws 0 0) (set-get_or s.words 2 0) ∙ r.length_is;
          ticket_is = ap (λ (ws : List ℕ). get_or ws 1 0) (set-get_or s.words 2 0) ∙ r.ticket_is;
          served_is = ap (λ (ws : List ℕ). get_or ws 2 0) (set-get_or s.words 2 0) ∙ served;
          small = small';
          slot_is = set_here s.homes 0 none (let d = r.deep in omega arith) ∙ ap (λ n. some (slot q.value n)) (sym one);
          seats = stays live calm q q.value q.log s.views id me.0 w at r.seats (sym had)
              (λ j d _ _ f. record { stage = f.stage; may = f.may; saw = f.saw; heard = f.heard })
              (record {
                stage = (first, omega arith, sym hit ∙ served, refl, refl);
                may = omega arith;
                saw = ([], append-nil q.log);
                heard = ([], append-nil q.log);
              });
          puts = subst (λ ws. (j : ℕ) (d : SeatView T I V) → get_elem? (set s.views id w) j ≡ some d → IsPutter (user_words ws) d)
              (sym (set-get_or s.words 2 0))
              (putters (user_words s.words) s.views id w
              (nothing_put_at (user_words s.words) (HasTurn ticket q.value) (at_turn q.log me.0.known)) r.puts);
          whole = (id, w, at_mine s.views id me.0 w at, refl);
          kept = subst (λ (z : List (Known I V) × List ℕ). holds q.log q.value z.0 z.1)
              (λ i. (sym (map-set known_of s.views id w) i, sym (ap user_words (set-get_or s.words 2 0)) i)) shown.0;
        },
        (λ t waits'.
            let same : ticket ≡ t = ap ticket_of (sym waits ∙ waits') in (
              (λ miss. absurd (miss (hit ∙ same))),
              (λ _. (
                q.value,
                q.log,
                record { saw = mine.saw; heard = mine.heard; shown = shown.1 },
                ap with_turn same,
              )),
            )),
      ))
      (λ miss. (
        me.0,
        keeps,
        tt,
        subst (IsRuled holds live calm) (λ i. record {
          words = sym (set-get_or s.words 2 0) i;
          homes = s.homes;
          views = sym (set_again s.views id me.0 at) i;
        }) r,
        (λ t waits'.
            let same : ticket ≡ t = ap ticket_of (sym waits ∙ waits') in
            ((λ _. refl), λ hit. absurd (miss (hit ∙ sym same)))),
      ))
