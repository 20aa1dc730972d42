-- The least bit that is set, found from level to level.
use Rattle.std.proofs.Common.{◌≡◌, ℕ, zero, suc, ◌+◌, ◌*◌, ◌/◌, ◌%◌, ◌<◌, inl, inr, Bool, true, false, cond, eqb, List, [], ◌∷◌, length, get_or, None, Some, refl, sym, ap, subst, ◌∙◌, arith}
use Rattle.std.specs.Int.{bit_at}
use Rattle.std.specs.List.{position, position_or_len}
use Rattle.std.proofs.lemmas.Nat.Bits.{bit_at-zero}
use Rattle.std.proofs.lemmas.Bool.{cases_lt, eq-eqb, ne_eqb}
use Rattle.std.proofs.lemmas.List.{get_or_past, get_or_read}
use Rattle.std.proofs.lemmas.List.Sums.{position_or_len_is}
use Rattle.ready_set.specs.Bits.{IsLowestBit}
use Rattle.ready_set.specs.Levels.{bit, places, Summarizes}
use Rattle.ready_set.proofs.Words.{get_or-places, length-places}

pub record IsLeast (words : List ℕ) (k : ℕ) : Type 0 where
  pub on : bit words k ≡ 1
  pub below : (i : ℕ) → i < k → bit words i ≡ 0

-- ---- what a bit of a summary tells

no_zero : (n : ℕ) → cond {A = ℕ} (eqb n 0) 0 1 ≡ 1 → 0 < n
no_zero zero e = absurd (omega arith)
no_zero (suc n) e = omega arith

all_zero : (n : ℕ) → cond {A = ℕ} (eqb n 0) 0 1 ≡ 0 → n ≡ 0
all_zero zero e = refl
all_zero (suc n) e =
    let other : eqb (suc n) 0 ≡ false = ne_eqb (suc n) 0 (λ h. omega arith) in
    let one : ◌≡◌ {A = ℕ} 1 0 = ap (λ b. cond {A = ℕ} b 0 1) (sym other) ∙ e in
    absurd (omega arith)

not_zero : (summary words : List ℕ) (b : ℕ) → Summarizes summary words → bit summary b ≡ 1 → 0 < get_or words b 0
not_zero summary words b s on = no_zero (get_or words b 0) (sym (s.at b) ∙ on)

pub is_within : (summary words : List ℕ) (b : ℕ) → Summarizes summary words → IsLeast summary b → b < length words
is_within summary words b s least = elim (cases_lt b (length words)) as (λ _. b < length words) [
  | inl l ↦ l
  | inr l ↦ absurd (omega (arith, get_or_past words b 0 l, not_zero summary words b s least.on))
]

-- no bit of the summary is set, and so none of the words
pub none_below : (summary words : List ℕ) → Summarizes summary words → ((k : ℕ) → bit summary k ≡ 0) → (k : ℕ) → bit words k ≡ 0
none_below summary words s none k =
    ap (λ v. bit_at v (k % 64)) (all_zero (get_or words (k / 64) 0) (sym (s.at (k / 64)) ∙ none (k / 64))) ∙ bit_at-zero (k % 64)

-- ---- the least bit

pub least_of_one : (word k : ℕ) → IsLowestBit word k → IsLeast (word ∷ []) k
least_of_one word k lowest =
    let at : (i : ℕ) → i < 64 → bit (word ∷ []) i ≡ bit_at word i = λ i l. (
    let first : i / 64 ≡ 0 = omega arith in
    let same : i % 64 ≡ i = omega arith in
    ap (λ n. bit_at (get_or (word ∷ []) n 0) (i % 64)) first ∙ ap (bit_at word) same) in
    record { on = at k lowest.within ∙ lowest.on; below = λ i l. at i (omega (arith, lowest.within)) ∙ lowest.below i l }

-- one level down
least_down : (summary words : List ℕ) (b k : ℕ) → Summarizes summary words → IsLeast summary b → IsLowestBit (get_or words b 0) k → IsLeast words (64 * b + k)
least_down summary words b k s least lowest =
    let at : (i n j : ℕ) → i / 64 ≡ n → i % 64 ≡ j → bit words i ≡ bit_at (get_or words n 0) j =
    λ i n j e f. ap (λ m. bit_at (get_or words m 0) (i % 64)) e ∙ ap (bit_at (get_or words n 0)) f in
    record {
      on = at (64 * b + k) b k (omega (arith, lowest.within)) (omega (arith, lowest.within)) ∙ lowest.on;
      below = λ i l. elim (cases_lt (i / 64) b) as (λ _. bit words i ≡ 0) [
        | inl m ↦ ap (λ v. bit_at v (i % 64)) (all_zero (get_or words (i / 64) 0) (sym (s.at (i / 64)) ∙ least.below (i / 64) m)) ∙ bit_at-zero (i % 64)
        | inr m ↦ at i b (i % 64) (omega (arith, lowest.within)) refl ∙ lowest.below (i % 64) (omega (arith, lowest.within))
      ];
    }

-- the same, where the word was read
pub least_down_read : (summary words : List ℕ) (b k word : ℕ) → Summarizes summary words → IsLeast summary b → word ≡ get_or words b word → IsLowestBit word k → IsLeast words (64 * b + k)
least_down_read summary words b k word s least read lowest =
    let same : word ≡ get_or words b 0 = get_or_read words b word (is_within summary words b s least) read 0 in
    least_down summary words b k s least (subst (λ w. IsLowestBit w k) same lowest)

pub read_positive : (summary words : List ℕ) (b word : ℕ) → Summarizes summary words → IsLeast summary b → word ≡ get_or words b word → 0 < word
read_positive summary words b word s least read =
    subst (λ w. 0 < w) (sym (get_or_read words b word (is_within summary words b s least) read 0)) (not_zero summary words b s least.on)

-- ---- the first place that is on

position-at : (ons : List Bool) (k : ℕ) → k < length ons → get_or ons k false ≡ true → ((i : ℕ) → i < k → get_or ons i false ≡ false) → position (λ on. on) ons ≡ Some k
position-at ons k within on below =
    let at : position_or_len (λ on. on) ons ≡ k = position_or_len_is (λ on. on) ons k false (omega arith) below (λ _. on) in
    grind (arith, at)

position-none : (ons : List Bool) → ((i : ℕ) → get_or ons i false ≡ false) → position (λ on. on) ons ≡ None
position-none ons none =
    let at : position_or_len (λ on. on) ons ≡ length ons = position_or_len_is (λ on. on) ons (length ons) false (omega arith) (λ i _. none i) (λ h. absurd (omega arith)) in
    grind (arith, at)

pub position-places : (words : List ℕ) (k : ℕ) → k < 64 * length words → IsLeast words k → position (λ on. on) (places words) ≡ Some k
position-places words k within least =
    position-at (places words) k (omega (arith, length-places words)) (get_or-places words k ∙ eq-eqb _ _ least.on) (λ i h. get_or-places words i ∙ ap (λ b. eqb b 1) (least.below i h))

pub position-places_none : (words : List ℕ) → ((k : ℕ) → bit words k ≡ 0) → position (λ on. on) (places words) ≡ None
position-places_none words none = position-none (places words) (λ k. get_or-places words k ∙ ap (λ b. eqb b 1) (none k))
