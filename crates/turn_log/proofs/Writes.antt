-- Who has its turn adds to the log.
use Rattle.std.proofs.Common.{◌≡◌, ℕ, zero, suc, ◌+◌, ◌%◌, ◌^◌, ◌<◌, ◌≤◌, List, [], ◌∷◌, ◌++◌, map, get_or, length, set, sum_by, sym, refl, ap, ◌∙◌, subst, arith, length-set, length-append, get_or-set_other, get_or-set_same, append-nil, append_assoc, Option, Some}
use mathlib.Core.Option.{some, none}
use mathlib.Core.List.{IsPrefix}
use lib.Seq.{map-set}
use Rattle.atomic_table.specs.Table.{Allows, Me, keeps, step}
use Rattle.atomic_table.proofs.Lists.{at_map}
use Rattle.turn_log.specs.declared.rule.Known.{Known}
use Rattle.turn_log.specs.declared.table.SeatView.{SeatView}
use Rattle.turn_log.specs.declared.table.Stage.{Stage}
use Rattle.turn_log.specs.declared.table.Stage.TheVariants.{HasTurn}
use Rattle.turn_log.specs.Knowing.{having_written}
use Rattle.turn_log.specs.Owed.{MayWrite}
use Rattle.turn_log.specs.Queue.{IsAtStage, IsRuled, known_of, slot, tickets, turns, turns_of, user_words}
use Rattle.turn_log.specs.Told.{wrote}
use Rattle.turn_log.proofs.Looks.{ticket_of}
use Rattle.turn_log.proofs.Places.{at_mine}
use Rattle.turn_log.proofs.Queues.{leading, others_wait, stays, waits_on}
use Rattle.turn_log.proofs.Putters.{putters, putters_words}
use Rattle.turn_log.proofs.Sums.{sum_set, term_le}
use Rattle.turn_log.proofs.UserWords.{queue_word}

-- what lies in the slot that was taken last
abbrev lies_in : {T : Type 0} → T → List (ℕ × Option T) → T
lies_in d ((i, Some x) ∷ cs) = x
lies_in d _ = d

longer_prefix : {I : Type 0} (xs ys log : List I) (i : I) → ys ≡ log → IsPrefix xs log
    → IsPrefix xs (ys ++ i ∷ [])
longer_prefix xs ys log i same p =
    (p.0 ++ i ∷ [], sym (append_assoc xs p.0 (i ∷ [])) ∙ ap (λ l. l ++ i ∷ []) (p.1 ∙ sym same))

module _ {T I V : Type 0} (holds : List I → T → List (Known I V) → List ℕ → Type 0) (live : V → ℕ)
    (calm : V → Type 0) (item : T → I) (after : I → V → V) where
  pub writes : (slots id : ℕ) (me : Me (Option T) (SeatView T I V)) (ticket : ℕ) (before value : T)
      → me.0.stage ≡ HasTurn ticket before → me.1 ≡ (0, Some value) ∷ []
      → 1 ≤ live (after (item value) me.0.known.client)
      → MayWrite holds after id me.0.known me.0.puts before value (item value)
      → Allows (IsRuled holds live calm) slots id me 0 (λ n. (n + 1) % 2 ^ 64) (wrote item after (step slots 0 1 0 none) me)
  writes slots id me ticket before value turn lies lives may s r deep at fits =
      let q = r.queue in
      let k = me.0.known in
      let mine = r.seats.each id me.0 at in
      let stage = subst (λ (z : Stage T). IsAtStage live calm q id z k) turn mine.stage in
      let had : tickets me.0.stage ≡ 1 = ap tickets turn in
      let had_turn : turns me.0.stage ≡ 1 = ap turns turn in
      let now : ℕ = (get_or s.words 0 0 + 1) % 18446744073709551616 in
      let wide = r.wide in
      let log : List I = k.seen ++ item value ∷ [] in
      let w : SeatView T I V = record me.0 {
        stage = HasTurn ticket value;
        known = having_written after (item value) k;
      } in
      let mine_puts = r.puts id me.0 at in
      let longer_by_one : length log ≡ length q.log + 1 = length-append k.seen (item value ∷ []) ∙ ap (λ (l : List I). length l + 1) stage.4 in
      let old = r.length_is in
      let turning = sum_set turns_of s.views id me.0 w at in
      let still : sum_by turns_of (set s.views id w) ≡ sum_by turns_of s.views = omega arith in
      let out = term_le turns_of s.views id me.0 at in (
        w,
        keeps,
        tt,
        record {
          queue = leading live calm q value log;
          wide = let n = length-set s.words 0 now in omega arith;
          deep = r.deep;
          length_is = let here = get_or-set_same s.words 0 now 0 (omega arith) in omega arith;
          ticket_is = get_or-set_other s.words 0 1 now 0 (λ e. omega arith) ∙ r.ticket_is;
          served_is = get_or-set_other s.words 0 2 now 0 (λ e. omega arith) ∙ r.served_is;
          small = r.small;
          slot_is = r.slot_is ∙ (some_out q.value value (sum_by turns_of s.views) (omega arith)
              ∙ ap (λ n. some (slot value n)) (sym still));
          seats = stays live calm q value log s.views id me.0 w at r.seats (sym had)
              (λ j d other there f. record {
                stage = waits_on live calm q value log j d.known d.stage
                    (others_wait live calm q s.views id me.0 r.seats at (omega arith) stage.0 j d other there) f.stage;
                may = f.may;
                saw = longer_prefix d.known.seen k.seen q.log (item value) stage.4 f.saw;
                heard = longer_prefix d.known.heard k.seen q.log (item value) stage.4 f.heard;
              })
              (record {
                stage = (stage.0, stage.1, stage.2, refl, refl);
                may = lives;
                saw = ([], append-nil log);
                heard = ([], append-nil log);
              });
          puts = putters_words s.words 0 now (set s.views id w) (omega arith)
              (putters (user_words s.words) s.views id w
              (record { stand = mine_puts.stand; turn = λ none. absurd (omega arith) }) r.puts);
          whole = (id, w, at_mine s.views id me.0 w at, refl);
          kept = subst (λ (z : List (Known I V) × List ℕ). holds log value z.0 z.1)
              (λ i. (sym (map-set known_of s.views id w) i, sym (queue_word s.words 0 now (omega arith)) i))
              (may (map known_of s.views) (user_words s.words)
              (subst (λ (z : List I × T). holds z.0 z.1 (map known_of s.views) (user_words s.words))
              (λ i. (sym stage.4 i, sym stage.3 i)) r.kept)
              (at_map known_of s.views id me.0 at) mine_puts.stand);
        },
        (λ t before' value' turn' lies'.
            let same : ticket ≡ t = ap ticket_of (sym turn ∙ turn') in
            let same_value : value ≡ value' = ap (lies_in value) (sym lies ∙ lies') in
            λ i. (record me.0 { stage = HasTurn (same i) (same_value i); known = having_written after (item (same_value i)) k }, me.1)),
      )
    where
      -- where the slot is out, it doesn't matter what the value is
      some_out : (x y : T) (n : ℕ) → 0 < n → some (slot x n) ≡ some (slot y n)
      some_out x y zero out = absurd (omega arith)
      some_out x y (suc n) out = refl
