-- The bits of words, and the places that they make.
use Rattle.std.proofs.Common.{◌≡◌, ◌≢◌, ℕ, zero, suc, ◌+◌, ◌-◌, ◌*◌, ◌/◌, ◌%◌, ◌<◌, ◌≤◌, inl, inr, Bool, true, false, cond, eqb, List, [], ◌∷◌, ◌++◌, length, get_or, set, replicate, refl, sym, ap, subst, ◌∙◌, arith}
use Rattle.std.specs.Int.{bit_at}
use Rattle.std.proofs.lemmas.Nat.Bits.{bit_at-zero}
use Rattle.std.proofs.lemmas.Bool.{cases_eq, cases_lt, eq-eqb}
use Rattle.std.proofs.lemmas.List.{get_or-set_same, get_or-set_other, get_or_past, length-set, length-append, length-replicate, get_or_append_left, get_or-append_right, get_or-replicate, ext_get_or, get_or_read}
use Rattle.std.proofs.lemmas.List.FromFn.{length-map-range_with_len, get_or-map-range_with_len}
use Rattle.ready_set.specs.Bits.{PutsBit}
use Rattle.ready_set.specs.Levels.{bit, places}

-- ---- bits

-- a 0 at the end changes no read
pub get_or-push_zero : (xs : List ℕ) (i : ℕ) → get_or (xs ++ 0 ∷ []) i 0 ≡ get_or xs i 0
get_or-push_zero [] zero = refl
get_or-push_zero [] (suc i) = refl
get_or-push_zero (x ∷ xs) zero = refl
get_or-push_zero (x ∷ xs) (suc i) = get_or-push_zero xs i

pub bit-push_zero : (xs : List ℕ) (k : ℕ) → bit (xs ++ 0 ∷ []) k ≡ bit xs k
bit-push_zero xs k = ap (λ w. bit_at w (k % 64)) (get_or-push_zero xs (k / 64))

bit_past : (xs : List ℕ) (k : ℕ) → 64 * length xs ≤ k → bit xs k ≡ 0
bit_past xs k h = ap (λ w. bit_at w (k % 64)) (get_or_past xs (k / 64) 0 (omega arith)) ∙ bit_at-zero (k % 64)

-- the word that holds bit a is read, and that bit of it put on or off
pub record Writes (words : List ℕ) (a before after : ℕ) (on : Bool) : Type 0 where
  pub within : a / 64 < length words
  pub read : before ≡ get_or words (a / 64) before
  pub put : PutsBit before after (a % 64) on

pub read_one : (word i : ℕ) → word ≡ get_or (word ∷ []) i word
read_one word zero = refl
read_one word (suc i) = refl

pub bit-set_same : (words : List ℕ) (a before after : ℕ) (on : Bool) → Writes words a before after on → bit (set words (a / 64) after) a ≡ cond on 1 0
bit-set_same words a before after on w = ap (λ v. bit_at v (a % 64)) (get_or-set_same words (a / 64) after 0 w.within) ∙ w.put.same

pub bit-set_other : (words : List ℕ) (a before after : ℕ) (on : Bool) → Writes words a before after on → (k : ℕ) → k ≢ a → bit (set words (a / 64) after) k ≡ bit words k
bit-set_other words a before after on w k apart = elim (cases_eq (k / 64) (a / 64)) as (λ _. bit (set words (a / 64) after) k ≡ bit words k) [
  | inl e ↦
      let p : k % 64 ≢ a % 64 = λ e2. apart (omega arith) in
      ap (λ n. bit_at (get_or (set words (a / 64) after) n 0) (k % 64)) e
      ∙ ap (λ v. bit_at v (k % 64)) (get_or-set_same words (a / 64) after 0 w.within)
      ∙ w.put.others (k % 64) (omega arith) p
      ∙ ap (λ v. bit_at v (k % 64)) (get_or_read words (a / 64) before w.within w.read 0)
      ∙ ap (λ n. bit_at (get_or words n 0) (k % 64)) (sym e)
  | inr e ↦ ap (λ v. bit_at v (k % 64)) (get_or-set_other words (a / 64) (k / 64) after 0 e)
]

-- ---- places

pub length-places : (words : List ℕ) → length (places words) ≡ 64 * length words
unfolding places
length-places words = length-map-range_with_len (λ k. eqb (bit words k) 1) 0 (64 * length words)

pub get_or-places : (words : List ℕ) (k : ℕ) → get_or (places words) k false ≡ eqb (bit words k) 1
unfolding places
get_or-places words k = elim (cases_lt k (64 * length words)) as (λ _. get_or (places words) k false ≡ eqb (bit words k) 1) [
  | inl h ↦ get_or-map-range_with_len (λ k. eqb (bit words k) 1) 0 (64 * length words) k k false h (omega arith)
  | inr h ↦ get_or_past (places words) k false (subst (λ n. n ≤ k) (sym (length-places words)) h) ∙ sym (ap (λ b. eqb b 1) (bit_past words k h))
]

pub places-empty : (words : List ℕ) → words ≡ [] → places words ≡ []
unfolding places
places-empty words e = ap places e

bit_test : (on : Bool) (b : ℕ) → b ≡ cond on 1 0 → eqb b 1 ≡ on
bit_test true b e = eq-eqb b 1 e
bit_test false b e = ap (λ n. eqb n 1) e

-- one bit is written
pub places-set : (words : List ℕ) (a before after : ℕ) (on : Bool) → Writes words a before after on → places (set words (a / 64) after) ≡ set (places words) a on
places-set words a before after on w =
    let written = set words (a / 64) after in
    let long = length-places written ∙ ap (λ n. 64 * n) (length-set words (a / 64) after) in
    let long2 = length-set (places words) a on ∙ length-places words in
    ext_get_or false _ _ (long ∙ sym long2) (λ k h. get_or-places written k ∙ elim (cases_eq k a) as (λ _. eqb (bit written k) 1 ≡ get_or (set (places words) a on) k false) [
      | inl e ↦
          ap (λ n. eqb (bit written n) 1) e
          ∙ bit_test on _ (bit-set_same words a before after on w)
          ∙ sym (get_or-set_same (places words) a on false (omega (arith, w.within, length-places words)))
          ∙ ap (λ n. get_or (set (places words) a on) n false) (sym e)
      | inr e ↦
          ap (λ b. eqb b 1) (bit-set_other words a before after on w k e)
          ∙ sym (get_or-set_other (places words) a k on false e ∙ get_or-places words k)
    ])

-- a word of zeros is 64 places more
pub places-push_zero : (words : List ℕ) → places (words ++ 0 ∷ []) ≡ places words ++ replicate 64 false
places-push_zero words =
    let long = length-places (words ++ 0 ∷ []) ∙ ap (λ n. 64 * n) (length-append words (0 ∷ [])) in
    let long2 = length-append (places words) (replicate 64 false) ∙ ap (λ n. n + length (replicate 64 false)) (length-places words) ∙ ap (λ n. 64 * length words + n) (length-replicate 64 false) in
    ext_get_or false _ _ (omega (arith, long, long2)) (λ k h.
    get_or-places (words ++ 0 ∷ []) k
    ∙ ap (λ b. eqb b 1) (bit-push_zero words k)
    ∙ elim (cases_lt k (64 * length words)) as (λ _. eqb (bit words k) 1 ≡ get_or (places words ++ replicate 64 false) k false) [
      | inl l ↦ sym (get_or_append_left (places words) (replicate 64 false) false k (omega (arith, length-places words)) ∙ get_or-places words k)
      | inr l ↦
          ap (λ b. eqb b 1) (bit_past words k l)
          ∙ sym (get_or-append_right (places words) (replicate 64 false) (64 * length words) k false (length-places words) l
          ∙ get_or-replicate 64 (k - 64 * length words) false false (omega (arith, long)))
    ])
