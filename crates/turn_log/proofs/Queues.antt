-- How the queue of the seats that have a ticket changes.
use Rattle.std.proofs.Common.{◌≡◌, ◌≢◌, ◌⊎◌, ℕ, ◌+◌, ◌<◌, List, [], ◌∷◌, ◌++◌, map, set, sym, refl, ap, ◌∙◌, subst, ⊎_elim, inl, inr, arith}
use Rattle.std.proofs.lemmas.List.Sums.{sum_by_push}
use mathlib.Core.Option.{some}
use lib.ListN.{get_elem?}
use lib.Seq.{map-set}
use Rattle.atomic_table.proofs.Lists.{at_map, at_set, at_snoc, set_again}
use Rattle.turn_log.specs.declared.rule.Known.{Known}
use Rattle.turn_log.specs.declared.table.SeatView.{SeatView}
use Rattle.turn_log.specs.declared.table.Stage.{Stage}
use Rattle.turn_log.specs.declared.table.Stage.TheVariants.{Idle, Waits, HasTurn}
use Rattle.turn_log.specs.Owed.{FewTickets}
use Rattle.turn_log.specs.Queue.{Queue, IsAtStage, IsHeard, IsQueue, IsSeat, known_of, tickets, tickets_of, turns}
use Rattle.turn_log.specs.Seats.{idle, view_of}
use Rattle.turn_log.proofs.Places.{at_mine, at_one, at_other}
use Rattle.turn_log.proofs.Sums.{sum_map, sum_set}
use mathlib.Core.Logic.{dite}
use native.Mathlib.Decide.{ℕ_discrete}

module _ {T I V : Type 0} (live : V → ℕ) (calm : V → Type 0) where
  -- what a seat is to the queue q, it is to the queue r
  abbrev Stays : Queue T I → Queue T I → ℕ → SeatView T I V → Type 0
  Stays q r j d = IsSeat live calm q j d → IsSeat live calm r j d

  -- the view of one seat changes from v to w, and the queue from q to r
  pub moves : (q r : Queue T I) (views : List (SeatView T I V)) (id : ℕ) (v w : SeatView T I V)
      → get_elem? views id ≡ some v
      → IsQueue live calm q views
      → q.long + tickets_of w ≡ r.long + tickets_of v
      → ((j : ℕ) (d : SeatView T I V) → j ≢ id → get_elem? views j ≡ some d → Stays q r j d)
      → IsSeat live calm r id w
      → ((j k : ℕ) (d e : SeatView T I V) → j ≢ id → k ≢ id → get_elem? views j ≡ some d → get_elem? views k ≡ some e
      → 0 < tickets d.stage → 0 < tickets e.stage → r.place j ≡ r.place k → q.place j ≡ q.place k)
      → ((k : ℕ) (e : SeatView T I V) → k ≢ id → get_elem? views k ≡ some e
      → 0 < tickets w.stage → 0 < tickets e.stage → r.place id ≢ r.place k)
      → IsQueue live calm r (set views id w)
  moves q r views id v w at queue sum others mine old new = record {
    count = let t = sum_set tickets_of views id v w at in let c = queue.count in omega arith;
    each = λ j d e. ⊎_elim
        (λ (t : (j ≡ id) × (w ≡ d)). subst (λ (x : ℕ × SeatView T I V). IsSeat live calm r x.0 x.1) (λ i. (sym t.0 i, t.1 i)) mine)
        (λ (t : (j ≢ id) × (get_elem? views j ≡ some d)). others j d t.0 t.1 (queue.each j d t.1))
        (at_set views id j w d e);
    apart = λ j k d e p s a b same. ⊎_elim
        (λ (t : (j ≡ id) × (w ≡ d)). ⊎_elim
        (λ (u : (k ≡ id) × (w ≡ e)). t.0 ∙ sym u.0)
        (λ (u : (k ≢ id) × (get_elem? views k ≡ some e)). absurd (new k e u.0 u.1
        (subst (λ (z : SeatView T I V). 0 < tickets z.stage) (sym t.1) a) b (ap r.place (sym t.0) ∙ same)))
        (at_set views id k w e s))
        (λ (t : (j ≢ id) × (get_elem? views j ≡ some d)). ⊎_elim
        (λ (u : (k ≡ id) × (w ≡ e)). absurd (new j d t.0 t.1
        (subst (λ (z : SeatView T I V). 0 < tickets z.stage) (sym u.1) b) a (ap r.place (sym u.0) ∙ sym same)))
        (λ (u : (k ≢ id) × (get_elem? views k ≡ some e)). queue.apart j k d e t.1 u.1 a b
        (old j k d e t.0 u.0 t.1 u.1 a b same))
        (at_set views id k w e s))
        (at_set views id j w d p);
  }

  -- the queue, where the log leads to another value
  abbrev pub leading : Queue T I → T → List I → Queue T I
  leading q value log = record q { value = value; log = log }

  -- the same where nobody comes or goes
  pub stays : (q : Queue T I) (value : T) (log : List I) (views : List (SeatView T I V)) (id : ℕ) (v w : SeatView T I V)
      → get_elem? views id ≡ some v → IsQueue live calm q views → tickets_of w ≡ tickets_of v
      → ((j : ℕ) (d : SeatView T I V) → j ≢ id → get_elem? views j ≡ some d → Stays q (leading q value log) j d)
      → IsSeat live calm (leading q value log) id w
      → IsQueue live calm (leading q value log) (set views id w)
  stays q value log views id v w at queue same others mine =
      moves q (leading q value log) views id v w at queue (omega arith) others mine
      (λ j k d e _ _ _ _ _ _ p. p)
      (λ k e other there has has' p. other (sym (queue.apart id k v e at there (omega arith) has' p)))

  -- a seat comes that has no ticket
  pub comes : (q : Queue T I) (views : List (SeatView T I V)) (k : Known I V)
      → ((id : ℕ) → IsSeat live calm q id (idle k))
      → IsQueue live calm q views → IsQueue live calm q (views ++ idle k ∷ [])
  comes q views k seat queue = record {
    count = let t = sum_by_push tickets_of views (idle k) in let c = queue.count in omega arith;
    each = λ j d e. ⊎_elim (queue.each j d)
        (λ (t : idle k ≡ d). subst (IsSeat live calm q j) t (seat j))
        (at_snoc views (idle k) d j e);
    apart = λ j l d e p r a b same. ⊎_elim
        (λ (x : get_elem? views j ≡ some d). ⊎_elim
        (λ (y : get_elem? views l ≡ some e). queue.apart j l d e x y a b same)
        (λ (y : idle k ≡ e). absurd (none e y b))
        (at_snoc views (idle k) e l r))
        (λ (x : idle k ≡ d). absurd (none d x a))
        (at_snoc views (idle k) d j p);
  }
    where
      none : (d : SeatView T I V) → idle k ≡ d → 0 < tickets d.stage → ⊥
      none d same has =
          let z : 0 < 0 = subst (λ (z : SeatView T I V). 0 < tickets z.stage) (sym same) has in absurd (omega arith)

  -- ---- what a seat is at its stage

  pub has_place : (q : Queue T I) (id : ℕ) (k : Known I V) (stage : Stage T)
      → IsAtStage live calm q id stage k → 0 < tickets stage → q.place id < q.long
  has_place q id k Idle at has = absurd (omega arith)
  has_place q id k (Waits t) at has = at.1
  has_place q id k (HasTurn t x) at has = let a = at.0 in let b = at.1 in omega arith

  -- who has the turn stands at place 0
  pub turn_is_first : (q : Queue T I) (id : ℕ) (k : Known I V) (stage : Stage T)
      → IsAtStage live calm q id stage k → (turns stage ≡ 0) ⊎ ((q.place id ≡ 0) × (0 < tickets stage))
  turn_is_first q id k Idle at = inl refl
  turn_is_first q id k (Waits t) at = inl refl
  turn_is_first q id k (HasTurn t x) at = inr (at.0, omega arith)

  -- while a seat stands at place 0, no other has the turn
  pub others_wait : (q : Queue T I) (views : List (SeatView T I V)) (id : ℕ) (v : SeatView T I V)
      → IsQueue live calm q views
      → get_elem? views id ≡ some v → 0 < tickets v.stage → q.place id ≡ 0
      → (j : ℕ) (d : SeatView T I V) → j ≢ id → get_elem? views j ≡ some d → turns d.stage ≡ 0
  others_wait q views id v queue at has first j d other there = ⊎_elim (λ e. e)
      (λ t. absurd (other (queue.apart j id d v there at t.1 has (t.0 ∙ sym first))))
      (turn_is_first q j d.known d.stage (queue.each j d there).stage)

  -- where a seat waits, its stage says nothing of value and log
  pub waits_on : (q : Queue T I) (value : T) (log : List I) (id : ℕ) (k : Known I V) (stage : Stage T)
      → turns stage ≡ 0 → IsAtStage live calm q id stage k
      → IsAtStage live calm (leading q value log) id stage k
  waits_on q value log id k Idle z at = at
  waits_on q value log id k (Waits t) z at = at
  waits_on q value log id k (HasTurn t x) z at = absurd (omega arith)

  -- fewer have a ticket than there are numbers
  pub few : (holds : List I → T → List (Known I V) → List ℕ → Type 0) (q : Queue T I) (views : List (SeatView T I V))
      (words : List ℕ)
      → FewTickets holds live → holds q.log q.value (map known_of views) words → IsQueue live calm q views
      → q.long < 18446744073709551616
  few holds q views words bounded kept queue =
      let c = queue.count in
      let l = sum_map tickets_of (λ (k : Known I V). live k.client) known_of views (λ i v e. (queue.each i v e).may) in
      let b = bounded q.log q.value (map known_of views) words kept in omega arith

  -- ---- what the user sees

  -- a change of stage alone changes no pass
  pub same_passes : (holds : List I → T → List (Known I V) → List ℕ → Type 0) (q : Queue T I)
      (views : List (SeatView T I V)) (words : List ℕ) (id : ℕ) (v : SeatView T I V) (stage : Stage T)
      → get_elem? views id ≡ some v → holds q.log q.value (map known_of views) words
      → holds q.log q.value (map known_of (set views id (view_of stage v.known))) words
  same_passes holds q views words id v stage at = subst (λ ps. holds q.log q.value ps words)
      (sym (map-set known_of views id (view_of stage v.known)
      ∙ set_again (map known_of views) id v.known (at_map known_of views id v at)))

  -- a pass keeps what it heard
  pub still_heard : (log : List I) (views : List (SeatView T I V)) (id : ℕ) (v w : SeatView T I V)
      → get_elem? views id ≡ some v
      → w.known.heard ≡ v.known.heard → IsHeard log views → IsHeard log (set views id w)
  still_heard log views id v w at same r = dite (ℕ_discrete r.0 id)
      (λ e. (
        id,
        w,
        at_mine views id v w at,
        same ∙ (ap (λ (z : SeatView T I V). z.known.heard) (sym (at_one views r.0 id r.1 v e r.2 at)) ∙ r.3),
      ))
      (λ n. (r.0, r.1, at_other views id r.0 r.1 w n r.2, r.3))
