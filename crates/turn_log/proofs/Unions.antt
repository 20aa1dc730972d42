-- A seat takes in another.
use Rattle.std.proofs.Common.{◌≡◌, ◌≢◌, ◌⊎◌, ℕ, ◌<◌, ◌≤◌, Bool, true, false, List, [], ◌∷◌, ◌++◌, map, length, set, sum_by, nat_lt, if◌then◌else◌, sym, refl, ap, ◌∙◌, subst, ⊎_elim, inl, inr, arith, append-nil, length-append}
use Rattle.std.proofs.lemmas.Bool.Decides.{nat_tests}
use mathlib.Core.Logic.{dite}
use mathlib.Core.Option.{some}
use mathlib.Core.List.{IsPrefix}
use native.Mathlib.Decide.{ℕ_discrete}
use lib.ListN.{get_elem?}
use lib.Seq.{map-set}
use Rattle.atomic_table.specs.Table.{Joins}
use Rattle.atomic_table.proofs.Lists.{at_map, at_set}
use Rattle.turn_log.specs.declared.rule.Known.{Known}
use Rattle.turn_log.specs.declared.table.SeatView.{SeatView}
use Rattle.turn_log.specs.declared.table.Stage.TheVariants.{Idle}
use Rattle.turn_log.specs.Knowing.{having_joined, longer, newcomer}
use Rattle.turn_log.specs.Owed.{MayJoin}
use Rattle.turn_log.specs.Queue.{IsHeard, IsRuled, known_of, slot, tickets, turns, turns_of, user_words}
use Rattle.turn_log.specs.Seats.{idle}
use Rattle.turn_log.proofs.Places.{at_mine, at_one, at_other}
use Rattle.turn_log.proofs.Queues.{stays}
use Rattle.turn_log.proofs.Putters.{nothing_put, putters}
use Rattle.turn_log.proofs.Sums.{sum_set}

module _ {I : Type 0} where
  longer_begins : (xs ys log : List I) → IsPrefix xs log → IsPrefix ys log → IsPrefix (longer xs ys) log
  longer_begins xs ys log p q =
      elim (nat_lt (length xs) (length ys)) as (λ b. IsPrefix (if b then ys else xs) log) [ true ↦ q | false ↦ p ]

  -- a beginning that is no shorter is the whole
  begins_whole : (xs log : List I) → IsPrefix xs log → length log ≤ length xs → xs ≡ log
  begins_whole xs log p le =
      let e = ap (λ (l : List I). length l) p.1 in let a = length-append xs p.0 in
      sym (append-nil xs) ∙ (ap (λ l. xs ++ l) (sym (nothing p.0 (omega arith))) ∙ p.1)
    where
      nothing : (l : List I) → length l ≡ 0 → l ≡ []
      nothing [] z = refl
      nothing (x ∷ l) z = absurd (omega arith)

  -- of two beginnings of which one is the whole, the longer is the whole
  longer_is_whole : (xs ys log : List I) → IsPrefix xs log → IsPrefix ys log → (xs ≡ log) ⊎ (ys ≡ log)
      → longer xs ys ≡ log
  longer_is_whole xs ys log p q one = pick (nat_lt (length xs) (length ys)) refl
    where
      pick : (b : Bool) → nat_lt (length xs) (length ys) ≡ b → (if b then ys else xs) ≡ log
      pick true is =
          let less : length xs < length ys = grind (arith, nat_tests) in
          let a = ap (λ (l : List I). length l) q.1 in let b = length-append ys q.0 in
          ⊎_elim (λ e. let z = ap (λ (l : List I). length l) e in absurd (omega arith)) (λ e. e) one
      pick false is =
          let more : length ys ≤ length xs = grind (arith, nat_tests) in
          ⊎_elim (λ e. e) (λ e. let z = ap (λ (l : List I). length l) e in begins_whole xs log p (omega arith)) one

module _ {T I V : Type 0} (holds : List I → T → List (Known I V) → List ℕ → Type 0) (live : V → ℕ)
    (calm : V → Type 0) where
  -- who takes in another has heard of the whole log, if one of both had
  hears : (log : List I) (views : List (SeatView T I V)) (id other : ℕ) (d e w o : SeatView T I V) → other ≢ id
      → get_elem? views id ≡ some d → get_elem? views other ≡ some e
      → ((d.known.heard ≡ log) ⊎ (e.known.heard ≡ log) → w.known.heard ≡ log)
      → IsHeard log views → IsHeard log (set (set views id w) other o)
  hears log views id other d e w o apart at there both whole =
      let mine : get_elem? (set (set views id w) other o) id ≡ some w =
      at_other (set views id w) other id w o (λ z. apart (sym z)) (at_mine views id d w at) in
      dite (ℕ_discrete whole.0 other)
      (λ same. (id, w, mine, both (inr (heard_by (at_one views whole.0 other whole.1 e same whole.2 there) whole.3))))
      (λ not_other. dite (ℕ_discrete whole.0 id)
      (λ same. (id, w, mine, both (inl (heard_by (at_one views whole.0 id whole.1 d same whole.2 at) whole.3))))
      (λ not_me. (
        whole.0,
        whole.1,
        at_other (set views id w) other whole.0 whole.1 o not_other (at_other views id whole.0 whole.1 w not_me whole.2),
        whole.3,
      )))
    where
      heard_by : {one two : SeatView T I V} → one ≡ two → one.known.heard ≡ log → two.known.heard ≡ log
      heard_by same heard = ap (λ (z : SeatView T I V). z.known.heard) (sym same) ∙ heard

  pub joins : (id : ℕ) (d : SeatView T I V) (other : ℕ) (e : SeatView T I V) (both : V → V → V) (spent : V)
      → d.stage ≡ Idle → e.stage ≡ Idle
      → calm (both d.known.client e.known.client) → calm spent
      → MayJoin holds id d.known other e.known (having_joined both e.known d.known) (newcomer spent)
      → Joins (IsRuled holds live calm) id d other e (idle (having_joined both e.known d.known)) (idle (newcomer spent))
  joins id d other e both spent idle_d idle_e calm_both calm_spent may s r at apart there =
      let q = r.queue in
      let w : SeatView T I V = idle (having_joined both e.known d.known) in
      let o : SeatView T I V = idle (newcomer spent) in
      let was : get_elem? s.views other ≡ some e = ⊎_elim
      (λ (t : (other ≡ id) × (w ≡ e)). absurd (apart t.0))
      (λ (t : (other ≢ id) × (get_elem? s.views other ≡ some e)). t.1)
      (at_set s.views id other w e there) in
      let mine = r.seats.each id d at in
      let theirs = r.seats.each other e was in
      let first = stays live calm q q.value q.log s.views id d w at r.seats (sym (ap tickets idle_d)) (λ j x _ _ f. f)
      (record {
        stage = calm_both;
        may = omega arith;
        saw = mine.saw;
        heard = longer_begins d.known.heard e.known.heard q.log mine.heard theirs.heard;
      }) in
      let one = sum_set turns_of s.views id d w at in
      let two = sum_set turns_of (set s.views id w) other e o there in
      let none_d : turns d.stage ≡ 0 = ap turns idle_d in
      let none_e : turns e.stage ≡ 0 = ap turns idle_e in
      let still : sum_by turns_of (set (set s.views id w) other o) ≡ sum_by turns_of s.views = omega arith in
      let same = map-set known_of s.views id w in record {
        queue = q;
        wide = r.wide;
        deep = r.deep;
        length_is = r.length_is;
        ticket_is = r.ticket_is;
        served_is = r.served_is;
        small = r.small;
        slot_is = r.slot_is ∙ ap (λ n. some (slot q.value n)) (sym still);
        seats = stays live calm q q.value q.log (set s.views id w) other e o there first (sym (ap tickets idle_e)) (λ j x _ _ f. f)
            (record { stage = calm_spent; may = omega arith; saw = (q.log, refl); heard = (q.log, refl) });
        puts = putters (user_words s.words) (set s.views id w) other o (nothing_put (user_words s.words) (newcomer spent))
            (putters (user_words s.words) s.views id w (nothing_put (user_words s.words) (having_joined both e.known d.known)) r.puts);
        whole = hears q.log s.views id other d e w o apart at was
            (longer_is_whole d.known.heard e.known.heard q.log mine.heard theirs.heard) r.whole;
        kept = subst (λ ps. holds q.log q.value ps (user_words s.words)) (sym (map-set known_of (set s.views id w) other o ∙ ap (λ l. set l other (known_of o)) same))
            (may q.log q.value (map known_of s.views) (user_words s.words) r.kept (at_map known_of s.views id d at) apart
            (at_map known_of s.views other e was) mine.saw theirs.saw);
      }
