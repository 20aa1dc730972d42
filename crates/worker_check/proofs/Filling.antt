-- Each step on the table keeps the rule of the words that passes fill.
use Rattle.std.proofs.Common.{◌≡◌, ◌⊎◌, ℕ, ◌+◌, ◌-◌, ◌*◌, ◌<◌, ◌≤◌, ◌==◌, true, List, [], ◌∷◌, ◌++◌, length, set, get_or, Some, inl, inr, ⊎_elim, sym, ap, ◌∙◌, subst, arith, length-append, length-set, get_or-set_other}
use Rattle.std.specs.Prelude.{if◌then◌else◌}
use Rattle.std.proofs.lemmas.Bool.{cases_lt}
use Rattle.std.proofs.lemmas.Bool.Decides.{nat_tests}
use Rattle.std.proofs.lemmas.List.Sums.{sum_by_push}
use Rattle.turn_log.specs.declared.rule.Known.{Known}
use Rattle.turn_log.specs.declared.table.SeatView.{SeatView}
use Rattle.turn_log.specs.Ends.{IsClosed}
use Rattle.turn_log.specs.Knowing.{at_turn, half, having_written}
use Rattle.turn_log.specs.Owed.{MayLook, MayPut, MayRead, MaySplit, MayWrite}
use Rattle.turn_log.specs.Queue.{last_put}
use Rattle.turn_log.proofs.Closings.{ended}
use Rattle.turn_log.proofs.Sums.{sum_set}
use Rattle.worker_check.specs.Filled.{AreFilled, Filled, Tells}

abbrev parts : Known ℕ ℕ → ℕ
parts k = k.client

pub may_look : MayLook Filled (λ k log count. (count ≡ length log) × (count ≤ 64))
may_look log count passes words id k rule at saw =
    let s = sum_set parts passes id k (at_turn log k) at in
    let eight = rule.parts in (
      record {
        many_words = rule.many_words;
        one_a_turn = rule.one_a_turn;
        within = rule.within;
        filled = rule.filled;
        parts = omega arith;
      },
      (rule.one_a_turn, rule.within),
    )

pub may_split : (id : ℕ) (k : Known ℕ ℕ) → 1 ≤ k.client
    → MaySplit Filled id k (half (λ parts. parts - 1) k) (half (λ _. 1) k)
may_split id k some_parts log count passes words rule at =
    let left = half (λ parts. parts - 1) k in
    let s = sum_set parts passes id k left at in
    let p = sum_by_push parts (set passes id left) (half (λ _. 1) k) in
    let eight = rule.parts in record {
      many_words = rule.many_words;
      one_a_turn = rule.one_a_turn;
      within = rule.within;
      filled = rule.filled;
      parts = omega arith;
    }

-- what was put last
pub put_last : (puts others : List (ℕ × ℕ)) (at w : ℕ) → puts ≡ (at, w) ∷ others → last_put puts at ≡ Some w
put_last puts others at w is =
    ap (λ ps. last_put ps at) is ∙ ap (λ b. if b then Some w else last_put others at) same
  where
    same : (at == at) ≡ true
    same = grind (arith, nat_tests)

-- once it was put, it is counted
pub may_write : (id : ℕ) (k : Known ℕ ℕ) (puts : List (ℕ × ℕ)) (count next : ℕ) → next ≡ count + 1 → count < 64
    → last_put puts count ≡ Some (2 * count + 1) → MayWrite Filled (λ i parts. parts) id k puts count next next
may_write id k puts count next is less put passes words rule at stand =
    let s = sum_set parts passes id k (having_written (λ i parts. parts) next k) at in
    let eight = rule.parts in
    let n = rule.one_a_turn in
    let longer : length (k.seen ++ next ∷ []) ≡ length k.seen + 1 = length-append k.seen (next ∷ []) in
    let wide = rule.many_words in
    let here = stand count (2 * count + 1) put (omega arith) in record {
      many_words = wide;
      one_a_turn = omega arith;
      within = omega arith;
      filled = λ i l. ⊎_elim
          (λ (below : i < count). rule.filled i below)
          (λ (same : i ≡ count). subst (λ (j : ℕ). get_or words j 0 ≡ 2 * j + 1) (sym same) here)
          (below_or_at i (omega arith));
      parts = omega arith;
    }
  where
    below_or_at : (i : ℕ) → i < count + 1 → (i < count) ⊎ (i ≡ count)
    below_or_at i l = elim (cases_lt i count) as (λ _. (i < count) ⊎ (i ≡ count)) [ inl less ↦ inl less | inr more ↦ inr (omega arith) ]

pub may_read : (id : ℕ) (view : SeatView ℕ ℕ ℕ) (at : ℕ) → MayRead Filled Tells id view at
may_read id view at log count passes words rule there saw now stand =
    let more = ap (λ (l : List ℕ). length l) saw.1 in
    let both = length-append view.known.seen saw.0 in
    let n = rule.one_a_turn in
    let wide = rule.many_words in
    (λ l. rule.filled at (omega arith), λ v l put. stand at v put (omega arith))

-- at the end all words that were counted are filled
pub filled_at_end : (live : ℕ → ℕ) (calm : ℕ → Type 0) (k : Known ℕ ℕ) (end : ℕ × List ℕ)
    → IsClosed Filled live calm k end.0 end.1 → (length end.1 ≡ 64) × AreFilled end.0 end.1
filled_at_end live calm k end closed =
    let rule = (ended Filled live calm k end.0 end.1 closed).3 in (rule.many_words, rule.filled)
