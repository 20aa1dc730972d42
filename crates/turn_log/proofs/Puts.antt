-- Who has its turn puts a word, and whoever has a seat reads one.
use Rattle.std.proofs.Common.{◌≡◌, ◌≢◌, ℕ, ◌==◌, ◌+◌, ◌-◌, true, false, cond, List, ◌∷◌, map, get_or, set, sum_by, sym, refl, ap, ◌∙◌, subst, ⊎_elim, arith, length-set, get_or-set_other, get_or-set_same, Option, Some}
use Rattle.std.proofs.lemmas.Bool.Decides.{nat_tests}
use mathlib.Core.Logic.{dite}
use mathlib.Core.Option.{some, none}
use native.Mathlib.Decide.{ℕ_discrete}
use lib.ListN.{get_elem?}
use lib.Seq.{map-set, set-get_or}
use Rattle.atomic_table.specs.Table.{Allows, Me, keeps, step}
use Rattle.atomic_table.proofs.Lists.{at_map, at_set, set_again}
use Rattle.turn_log.specs.declared.rule.Known.{Known}
use Rattle.turn_log.specs.declared.table.SeatView.{SeatView}
use Rattle.turn_log.specs.declared.table.Stage.{Stage}
use Rattle.turn_log.specs.declared.table.Stage.TheVariants.{Idle, Waits, HasTurn}
use Rattle.turn_log.specs.Owed.{IsNow, MayPut, MayRead}
use Rattle.turn_log.specs.Queue.{IsAtStage, IsPutter, IsRuled, PutsStand, Queue, known_of, last_put, slot, tickets, turns, turns_of, user_words}
use Rattle.turn_log.specs.Told.{put_there, read_there}
use Rattle.turn_log.proofs.Queues.{others_wait, stays, still_heard}
use Rattle.turn_log.proofs.Sums.{sum_set}
use Rattle.turn_log.proofs.UserWords.{get_user_word, queue_stays, user_word}

-- one word more is put
put_stands : (puts : List (ℕ × ℕ)) (words : List ℕ) (at w : ℕ) → PutsStand puts words
    → PutsStand ((at, w) ∷ puts) (set words at w)
put_stands puts words at w stand i v e l = dite (ℕ_discrete at i)
    (λ same.
    let test : (at == i) ≡ true = grind (arith, nat_tests) in
    let its : Some w ≡ Some v = ap (λ b. cond b (Some w) (last_put puts i)) (sym test) ∙ e in
    let n = length-set words at w in
    ap (λ k. get_or (set words at w) k 0) (sym same)
    ∙ (get_or-set_same words at w 0 (omega arith) ∙ some_one w v its))
    (λ other.
    let test : (at == i) ≡ false = grind (arith, nat_tests) in
    let before : last_put puts i ≡ Some v = ap (λ b. cond b (Some w) (last_put puts i)) (sym test) ∙ e in
    let n = length-set words at w in
    get_or-set_other words at i w 0 (λ e. other (sym e)) ∙ stand i v before (omega arith))
  where
    some_one : (a b : ℕ) → Some a ≡ Some b → a ≡ b
    some_one a b e = cc

module _ {T I V : Type 0} (holds : List I → T → List (Known I V) → List ℕ → Type 0) (live : V → ℕ)
    (calm : V → Type 0) where
  pub puts : (slots id : ℕ) (me : Me (Option T) (SeatView T I V)) (ticket : ℕ) (value : T)
      (at word : ℕ) → me.0.stage ≡ HasTurn ticket value → MayPut holds id me.0.known value at word
      → Allows (IsRuled holds live calm) slots id me (3 + at) (λ _. word)
      (λ _. put_there (step slots (3 + at) word 0 none) me word)
  puts slots id me ticket value at word turn may s r deep there fits =
      let q = r.queue in
      let k = me.0.known in
      let w : SeatView T I V = record me.0 { puts = (at, word) ∷ me.0.puts } in
      let mine = r.seats.each id me.0 there in
      let stage = subst (λ (z : Stage T). IsAtStage live calm q id z k) turn mine.stage in
      let had : tickets me.0.stage ≡ 1 = ap tickets turn in
      let has : turns me.0.stage ≡ 1 = ap turns turn in
      let alone = others_wait live calm q s.views id me.0 r.seats there (omega arith) stage.0 in
      let turning = sum_set turns_of s.views id me.0 w there in
      let still : sum_by turns_of (set s.views id w) ≡ sum_by turns_of s.views = omega arith in
      let place : (3 + at) - 3 ≡ at = omega arith in
      let n = length-set s.words (3 + at) word in
      let wide = r.wide in
      let same_passes : map known_of (set s.views id w) ≡ map known_of s.views =
      map-set known_of s.views id w ∙ set_again (map known_of s.views) id k (at_map known_of s.views id me.0 there) in (
        w,
        keeps,
        tt,
        record {
          queue = q;
          wide = omega arith;
          deep = r.deep;
          length_is = queue_stays s.words at 0 word (omega arith) ∙ r.length_is;
          ticket_is = queue_stays s.words at 1 word (omega arith) ∙ r.ticket_is;
          served_is = queue_stays s.words at 2 word (omega arith) ∙ r.served_is;
          small = r.small;
          slot_is = r.slot_is ∙ ap (λ n. some (slot q.value n)) (sym still);
          seats = stays live calm q q.value q.log s.views id me.0 w there r.seats refl (λ j d _ _ f. f)
              (record { stage = mine.stage; may = mine.may; saw = mine.saw; heard = mine.heard });
          puts = λ j d e. ⊎_elim
              (λ (t : (j ≡ id) × (w ≡ d)). subst (IsPutter (user_words (set s.words (3 + at) word))) t.1 (record {
                stand = subst (PutsStand ((at, word) ∷ me.0.puts)) (sym (user_word s.words at word))
                    (put_stands me.0.puts (user_words s.words) at word (r.puts id me.0 there).stand);
                turn = λ none. absurd (omega arith);
              }))
              (λ (t : (j ≢ id) × (get_elem? s.views j ≡ some d)).
              let nothing = (r.puts j d t.1).turn (alone j d t.0 t.1) in record {
                stand = subst (λ ps. PutsStand ps (user_words (set s.words (3 + at) word))) (sym nothing) (λ i v e. cc);
                turn = λ _. nothing;
              })
              (at_set s.views id j w d e);
          whole = still_heard live calm q.log s.views id me.0 w there refl r.whole;
          kept =
              subst (λ (z : List I × T). holds z.0 z.1 (map known_of (set s.views id w)) (user_words (set s.words (3 + at) word)))
              (λ i. (stage.4 i, stage.3 i))
              (subst (λ (z : List (Known I V) × List ℕ). holds k.seen value z.0 z.1)
              (λ i. (sym same_passes i, sym (user_word s.words at word) i))
              (may (map known_of s.views) (user_words s.words)
              (subst (λ (z : List I × T). holds z.0 z.1 (map known_of s.views) (user_words s.words))
              (λ i. (sym stage.4 i, sym stage.3 i)) r.kept)
              (at_map known_of s.views id me.0 there)));
        },
        ap (λ (p : ℕ). (record me.0 { puts = (p, word) ∷ me.0.puts }, me.1)) (sym place),
      )

  is_now : (q : Queue T I) (id : ℕ) (stage : Stage T) (k : Known I V) → IsAtStage live calm q id stage k
      → IsNow stage k q.log q.value
  is_now q id Idle k at = tt
  is_now q id (Waits t) k at = tt
  is_now q id (HasTurn t x) k at = (sym at.4, sym at.3)

  pub reads : (tells : SeatView T I V → ℕ → ℕ → Type 0) (slots id : ℕ) (me : Me (Option T) (SeatView T I V)) (at : ℕ)
      → MayRead holds tells id me.0 at
      → Allows (IsRuled holds live calm) slots id me (3 + at) (λ n. n)
      (read_there tells (step slots (3 + at) 0 0 none) me)
  reads tells slots id me at may s r deep there fits =
      let q = r.queue in
      let mine = r.seats.each id me.0 there in
      let place : (3 + at) - 3 ≡ at = omega arith in (
        me.0,
        keeps,
        tt,
        subst (IsRuled holds live calm) (λ i. record {
          words = sym (set-get_or s.words (3 + at) 0) i;
          homes = s.homes;
          views = sym (set_again s.views id me.0 there) i;
        }) r,
        (
          refl,
          subst (λ (z : ℕ × ℕ). tells me.0 z.0 z.1) (λ i. (sym place i, sym (get_user_word s.words at) i))
              (may q.log q.value (map known_of s.views) (user_words s.words) r.kept
              (at_map known_of s.views id me.0 there) mine.saw (is_now q id me.0.stage me.0.known mine.stage)
              (r.puts id me.0 there).stand),
        ),
      )
