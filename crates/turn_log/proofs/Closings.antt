-- Where a log begins, and where it ends.
use Rattle.std.proofs.Common.{◌≡◌, ℕ, zero, suc, ◌<◌, List, [], ◌∷◌, map, get_or, sum_by, sym, refl, ap, ◌∙◌, subst, arith, Option, Some}
use mathlib.Core.Option.{some, some-injective, some-ne-none}
use mathlib.Core.List.{IsPrefix}
use lib.ListN.{get_elem?}
use Rattle.atomic_table.specs.Table.{State, opening}
use Rattle.atomic_table.proofs.Lists.{at_map}
use Rattle.turn_log.specs.declared.rule.Known.{Known}
use Rattle.turn_log.specs.declared.table.SeatView.{SeatView}
use Rattle.turn_log.specs.declared.table.Stage.{Stage}
use Rattle.turn_log.specs.declared.table.Stage.TheVariants.{Idle, Waits, HasTurn}
use Rattle.turn_log.specs.Ends.{IsClosed, IsLast, IsStillOpen}
use Rattle.turn_log.specs.Knowing.{newcomer}
use Rattle.turn_log.specs.Owed.{FewTickets}
use Rattle.turn_log.specs.Queue.{IsPutter, IsRuled, IsSeat, Queue, known_of, slot, tickets, tickets_of, turns, turns_of, user_words}
use Rattle.turn_log.specs.Seats.{idle}
use Rattle.turn_log.proofs.Putters.{nothing_put}
use Rattle.turn_log.proofs.Queues.{few}
use Rattle.turn_log.proofs.Sums.{each_term, no_terms}

pub index_at : (l : List ℕ) (i v : ℕ) → get_elem? l i ≡ some v → get_or l i 0 ≡ v
index_at [] i v e = absurd (some-ne-none v (sym e))
index_at (x ∷ xs) zero v e = some-injective x v e
index_at (x ∷ xs) (suc i) v e = index_at xs i v e

module _ {T I V : Type 0} (holds : List I → T → List (Known I V) → List ℕ → Type 0) (live : V → ℕ)
    (calm : V → Type 0) where
  pub begins : (value : T) (v : V) (words : List ℕ) → holds [] value (newcomer v ∷ []) words → calm v
      → IsRuled holds live calm (opening (0 ∷ 0 ∷ 0 ∷ words) (Some value ∷ []) (idle (newcomer v)))
  begins value v words kept calm_v = record {
    queue = q;
    wide = omega arith;
    deep = refl;
    length_is = refl;
    ticket_is = refl;
    served_is = refl;
    small = omega arith;
    slot_is = refl;
    seats = record {
      count = refl;
      each = alone;
      apart = λ j k d e a b has _ _. absurd (none_has j d a has);
    };
    puts = alone_puts;
    whole = (0, idle (newcomer v), refl, refl);
    kept = kept;
  }
    where
      q : Queue T I
      q = record { long = 0; served = 0; place = λ _. 0; value = value; log = [] }

      alone : (j : ℕ) (d : SeatView T I V) → get_elem? (idle (newcomer v) ∷ []) j ≡ some d
          → IsSeat live calm q j d
      alone zero d e = subst (IsSeat live calm q 0) (some-injective (idle (newcomer v)) d e)
          (record { stage = calm_v; may = omega arith; saw = ([], refl); heard = ([], refl) })
      alone (suc j) d e = absurd (some-ne-none d (sym e))

      alone_puts : (j : ℕ) (d : SeatView T I V) → get_elem? (idle (newcomer v) ∷ []) j ≡ some d → IsPutter words d
      alone_puts zero d e = subst (IsPutter words) (some-injective (idle (newcomer v)) d e) (nothing_put words (newcomer v))
      alone_puts (suc j) d e = absurd (some-ne-none d (sym e))

      none_has : (j : ℕ) (d : SeatView T I V) → get_elem? (idle (newcomer v) ∷ []) j ≡ some d
          → 0 < tickets d.stage → ⊥
      none_has zero d e has =
          let z : 0 < 0 = subst (λ (z : SeatView T I V). 0 < tickets z.stage) (sym (some-injective (idle (newcomer v)) d e)) has in
          absurd (omega arith)
      none_has (suc j) d e has = some-ne-none d (sym e)

  last : (s : State (Option T) (SeatView T I V)) (r : IsRuled holds live calm s) (id : ℕ) (d : SeatView T I V)
      → get_elem? s.views id ≡ some d → IsLast holds live calm d.known r.queue (user_words s.words)
  last s r id d at = record {
    views = s.views;
    seats = r.seats;
    whole = r.whole;
    kept = r.kept;
    id = id;
    mine = d;
    there = at;
    knew = refl;
  }

  no_turns : (stage : Stage T) → tickets stage ≡ 0 → turns stage ≡ 0
  no_turns Idle z = refl
  no_turns (Waits t) z = refl
  no_turns (HasTurn t x) z = absurd (omega arith)

  -- where both words are alike, the value is at home
  pub closes : (s : State (Option T) (SeatView T I V)) (id : ℕ) (d : SeatView T I V) (ws : List ℕ) (xs : List (Option T))
      → FewTickets holds live → IsRuled holds live calm s → get_elem? s.views id ≡ some d → s.words ≡ ws
      → ((k : ℕ) (y : Option T) → get_elem? s.homes k ≡ some (some y) → get_elem? xs k ≡ some y)
      → get_or ws 1 0 ≡ get_or ws 2 0
      → (value : T) × (get_elem? xs 0 ≡ some (Some value)) × IsClosed holds live calm d.known value (user_words ws)
  closes s id d ws xs bounded r at words homes same =
      let q = r.queue in
      let bound = few live calm holds q s.views (user_words s.words) bounded r.kept r.seats in
      let small = r.small in
      let ticket = r.ticket_is in
      let served = r.served_is in
      let alike : get_or s.words 1 0 ≡ get_or s.words 2 0 =
      ap (λ (l : List ℕ). get_or l 1 0) words ∙ (same ∙ sym (ap (λ (l : List ℕ). get_or l 2 0) words)) in
      let none : q.long ≡ 0 = omega arith in
      let nobody : sum_by turns_of s.views ≡ 0 = no_terms turns_of s.views
      (λ j e there. no_turns e.stage (each_term tickets_of s.views (r.seats.count ∙ none) j e there)) in (
        q.value,
        homes 0 (Some q.value) (r.slot_is ∙ ap (λ n. some (slot q.value n)) nobody),
        (q, subst (λ zs. IsLast holds live calm d.known q (user_words zs)) words (last s r id d at), none, refl),
      )

  -- where they are not, somebody has a ticket
  pub stays_open : (s : State (Option T) (SeatView T I V)) (id : ℕ) (d : SeatView T I V) (ticket serving : ℕ)
      → IsRuled holds live calm s → get_elem? s.views id ≡ some d
      → get_or s.words 1 0 ≡ ticket → get_or s.words 2 0 ≡ serving → ¬ (ticket ≡ serving)
      → IsStillOpen holds live calm d.known ticket serving
  stays_open s id d ticket serving r at is is' differ =
      let q = r.queue in let t = r.ticket_is in let v = r.served_is in let small = r.small in
      (q, user_words s.words, last s r id d at, some_long q.long refl, sym is' ∙ v, sym is ∙ t)
    where
      some_long : (n : ℕ) → r.queue.long ≡ n → 0 < r.queue.long
      some_long zero none = let t = r.ticket_is in let v = r.served_is in let small = r.small in absurd (differ (omega arith))
      some_long (suc n) more = omega arith

  -- at the end the rule holds of the whole log, which begins with what the seat's pass saw and heard
  pub ended : (k : Known I V) (value : T) (words : List ℕ) → IsClosed holds live calm k value words
      → (log : List I) × (passes : List (Known I V)) × (id : ℕ) × holds log value passes words
      × (get_elem? passes id ≡ some k) × IsPrefix k.seen log × IsPrefix k.heard log
  ended k value words closed =
      let q = closed.0 in let last = closed.1 in let seat = last.seats.each last.id last.mine last.there in (
        q.log,
        map known_of last.views,
        last.id,
        subst (λ (v : T). holds q.log v (map known_of last.views) words) closed.3 last.kept,
        at_map known_of last.views last.id last.mine last.there ∙ ap some last.knew,
        subst (λ (w : Known I V). IsPrefix w.seen q.log) last.knew seat.saw,
        subst (λ (w : Known I V). IsPrefix w.heard q.log) last.knew seat.heard,
      )
