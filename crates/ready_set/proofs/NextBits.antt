-- The words of a set without levels.
use Rattle.std.proofs.Common.{◌≡◌, ℕ, ◌+◌, ◌-◌, ◌*◌, ◌/◌, ◌%◌, ◌^◌, ◌<◌, ◌≤◌, inl, inr, Bool, true, false, eqb, List, [], ◌∷◌, length, get_or, replicate, None, Some, sym, ap, subst, ◌∙◌, arith}
use Rattle.std.specs.Int.{bit_at}
use Rattle.std.proofs.Math.Nat.{div-div-eq-div-mul}
use Rattle.std.proofs.lemmas.Nat.{pow-add}
use Rattle.std.proofs.lemmas.Nat.Bits.{bit_at-zero, bit_at_above}
use Rattle.std.proofs.lemmas.Bool.{cases_lt, eq-eqb, true≢false}
use Rattle.std.proofs.lemmas.List.{get_or_past, get_or-replicate, length-replicate}
use Rattle.ready_set.specs.Bits.{IsLowestBit}
use Rattle.ready_set.specs.Levels.{places}
use Rattle.ready_set.specs.Next.{AreOff, IsNext}
use Rattle.ready_set.proofs.Words.{length-places, get_or-places}

-- a place by the bit of its word
pub place-bit : (words : List ℕ) (k word : ℕ) → get_or words (k / 64) 0 ≡ word → get_or (places words) k false ≡ eqb (bit_at word (k % 64)) 1
place-bit words k word read = get_or-places words k ∙ ap (λ w. eqb (bit_at w (k % 64)) 1) read

-- the only word's place
pub one-place : (word k : ℕ) → k < 64 → get_or (places (word ∷ [])) k false ≡ eqb (bit_at word k) 1
one-place word k within =
    let first : k / 64 ≡ 0 = omega arith in
    let same : k % 64 ≡ k = omega arith in
    place-bit (word ∷ []) k word (ap (λ j. get_or (word ∷ []) j 0) first) ∙ ap (λ j. eqb (bit_at word j) 1) same

off-zero : (k : ℕ) → eqb (bit_at 0 k) 1 ≡ false
off-zero k = ap (λ b. eqb b 1) (bit_at-zero k)

-- where words are 0 no place is on
pub zeros-off : (n : ℕ) → AreOff (places (replicate n 0)) 0 (length (places (replicate n 0)))
zeros-off n k from end = place-bit (replicate n 0) k 0 (zero-there (k / 64)) ∙ off-zero (k % 64)
  where
    zero-there : (j : ℕ) → ◌≡◌ {A = ℕ} (get_or (replicate n 0) j 0) 0
    zero-there j = elim (cases_lt j n) as (λ _. ◌≡◌ {A = ℕ} (get_or (replicate n 0) j 0) 0) [
      | inl h ↦ get_or-replicate n j 0 0 h
      | inr h ↦ get_or_past (replicate n 0) j 0 (omega (arith, length-replicate {A = ℕ} n 0))
    ]

-- ---- the next bit of a word

-- the bits of a word that was shifted
bit_at-shift : (word i k : ℕ) → bit_at (word / 2 ^ i) k ≡ bit_at word (i + k)
bit_at-shift word i k = ap (λ n. n % 2) (div-div-eq-div-mul word (2 ^ i) (2 ^ k) ∙ ap (λ n. word / n) (sym (pow-add 2 i k)))

-- the bit with number k, from bit i on
shifted : (word i k : ℕ) → i ≤ k → bit_at (word / 2 ^ i) (k - i) ≡ bit_at word k
shifted word i k after = bit_at-shift word i (k - i) ∙ ap (bit_at word) (omega arith)

pub next-some : (word from low : ℕ) → from + low < 64 → IsLowestBit (word / 2 ^ from) low → IsNext (places (word ∷ [])) from (Some (from + low))
next-some word from low within lowest = (
  omega arith,
  one-place word (from + low) within ∙ eq-eqb _ _ (sym (bit_at-shift word from low) ∙ lowest.on),
  λ k after before. one-place word k (omega arith) ∙ ap (λ b. eqb b 1) (sym (shifted word from k after) ∙ lowest.below (k - from) (omega arith)),
)

pub next-none : (word from : ℕ) → word / 2 ^ from ≡ 0 → IsNext (places (word ∷ [])) from None
next-none word from none k after end =
    let within : k < 64 = omega (arith, length-places (word ∷ [])) in
    one-place word k within ∙ ap (λ b. eqb b 1) (sym (shifted word from k after) ∙ ap (λ w. bit_at w (k - from)) none ∙ bit_at-zero (k - from))

-- where a word that was shifted is not 0, its lowest bit is within the word
pub lowest-within : (word from low : ℕ) → word < 2 ^ 64 → bit_at (word / 2 ^ from) low ≡ 1 → from + low < 64
lowest-within word from low small on = elim (cases_lt (from + low) 64) as (λ _. from + low < 64) [
  | inl h ↦ h
  | inr h ↦ absurd (omega (arith, sym (bit_at-shift word from low) ∙ on, bit_at_above word 64 (from + low) small h))
]

-- ---- the next bit of words

-- a place of a word is that of the word alone
pub in-word : (words : List ℕ) (j k word : ℕ) → get_or words j 0 ≡ word → k < 64 → get_or (places words) (64 * j + k) false ≡ get_or (places (word ∷ [])) k false
in-word words j k word read within =
    let high : (64 * j + k) / 64 ≡ j = omega arith in
    let low : (64 * j + k) % 64 ≡ k = omega arith in
    place-bit words (64 * j + k) word (ap (λ n. get_or words n 0) high ∙ read) ∙ ap (λ n. eqb (bit_at word n) 1) low ∙ sym (one-place word k within)

-- what is off in a word alone is off in the words
off-in-word : (words : List ℕ) (at end word : ℕ) → get_or words (at / 64) 0 ≡ word → end ≤ 64 → AreOff (places (word ∷ [])) (at % 64) end → AreOff (places words) at (64 * (at / 64) + end)
off-in-word words at end word read most off k after before =
    let place : 64 * (at / 64) + k % 64 ≡ k = omega arith in
    ap (λ n. get_or (places words) n false) (sym place) ∙ in-word words (at / 64) (k % 64) word read (omega arith) ∙ off (k % 64) (omega arith) (omega arith)

-- a place that is on is within the word
pub on-within : (word k : ℕ) → get_or (places (word ∷ [])) k false ≡ true → k < 64
on-within word k on = elim (cases_lt k 64) as (λ _. k < 64) [
  | inl h ↦ h
  | inr h ↦ absurd (true≢false (sym on ∙ get_or_past (places (word ∷ [])) k false (omega (arith, length-places (word ∷ [])))))
]

pub next-here : (words : List ℕ) (at k word : ℕ) → get_or words (at / 64) 0 ≡ word → IsNext (places (word ∷ [])) (at % 64) (Some k) → IsNext (places words) at (Some (64 * (at / 64) + k))
next-here words at k word read next =
    let within = on-within word k next.1 in
    (omega (arith, next.0), in-word words (at / 64) k word read within ∙ next.1, off-in-word words at k word read (omega arith) next.2)

pub next-later : (words : List ℕ) (at word : ℕ) → get_or words (at / 64) 0 ≡ word → IsNext (places (word ∷ [])) (at % 64) None → AreOff (places words) at (64 * (at / 64 + 1))
next-later words at word read none k after before =
    off-in-word words at 64 word read (omega arith) (subst (AreOff (places (word ∷ [])) (at % 64)) (length-places (word ∷ [])) none) k after (omega arith)

-- the places before one and those from it on
pub off-append : (ons : List Bool) (from middle end : ℕ) → AreOff ons from middle → AreOff ons middle end → AreOff ons from end
off-append ons from middle end before later k after below = elim (cases_lt k middle) as (λ _. get_or ons k false ≡ false) [
  | inl h ↦ before k after h
  | inr h ↦ later k h below
]
