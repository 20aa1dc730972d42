-- From a place on: what the level above tells of the words that are passed.
use Rattle.std.proofs.Common.{◌≡◌, ℕ, zero, suc, ◌+◌, ◌*◌, ◌/◌, ◌%◌, ◌<◌, ◌≤◌, inl, inr, true, false, cond, eqb, List, [], ◌∷◌, length, get_or, None, Some, refl, sym, ap, subst, ◌∙◌, arith}
use Rattle.std.proofs.lemmas.Nat.Bits.{bit_at-zero}
use Rattle.std.proofs.lemmas.Bool.{cases_lt, eq-eqb, ne_eqb, true≢false}
use Rattle.std.proofs.lemmas.List.{get_or_past}
use Rattle.ready_set.specs.Bits.{IsLowestBit}
use Rattle.ready_set.specs.Levels.{places, Summarizes}
use Rattle.ready_set.specs.Next.{AreOff, IsNext}
use Rattle.ready_set.proofs.Words.{get_or-places, length-places}
use Rattle.ready_set.proofs.NextBits.{next-here, off-append, one-place, place-bit}

no_word : (word : ℕ) → eqb (cond {A = ℕ} (eqb word 0) 0 1) 1 ≡ false → word ≡ 0
no_word zero e = refl
no_word (suc n) e =
    let other : eqb (suc n) 0 ≡ false = ne_eqb (suc n) 0 (λ h. omega arith) in
    let one : eqb (cond {A = ℕ} false 0 1) 1 ≡ false = ap (λ b. eqb (cond {A = ℕ} b 0 1) 1) (sym other) ∙ e in
    absurd (true≢false one)

some_word : (word : ℕ) → eqb (cond {A = ℕ} (eqb word 0) 0 1) 1 ≡ true → 0 < word
some_word zero e = absurd (true≢false (sym e))
some_word (suc n) e = omega arith

-- a place of the summary by its word
told : (upper words : List ℕ) (j : ℕ) → Summarizes upper words → get_or (places upper) j false ≡ eqb (cond {A = ℕ} (eqb (get_or words j 0) 0) 0 1) 1
told upper words j s = get_or-places upper j ∙ ap (λ b. eqb b 1) (s.at j)

-- what the level above tells to be off is off
passed : (upper words : List ℕ) (a b : ℕ) → Summarizes upper words → AreOff (places upper) a b → AreOff (places words) (64 * a) (64 * b)
passed upper words a b s off k after before =
    let zero_there : get_or words (k / 64) 0 ≡ 0 = no_word _ (sym (told upper words (k / 64) s) ∙ off (k / 64) (omega arith) (omega arith)) in
    place-bit words k 0 zero_there ∙ ap (λ b. eqb b 1) (bit_at-zero (k % 64))

-- the word that the level above tells to be the next is not 0
pub positive : (upper words : List ℕ) (m b : ℕ) → Summarizes upper words → IsNext (places upper) m (Some b) → 0 < get_or words b 0
positive upper words m b s next = some_word _ (sym (told upper words b s) ∙ next.1)

pub positive-within : (words : List ℕ) (b : ℕ) → 0 < get_or words b 0 → b < length words
positive-within words b some = elim (cases_lt b (length words)) as (λ _. b < length words) [
  | inl h ↦ h
  | inr h ↦ absurd (omega (arith, get_or_past words b 0 h))
]

pub next-first : (words : List ℕ) (b k word : ℕ) → get_or words b 0 ≡ word → IsLowestBit word k → IsNext (places words) (64 * b) (Some (64 * b + k))
next-first words b k word read lowest =
    let high : 64 * b / 64 ≡ b = omega arith in
    let low : 64 * b % 64 ≡ 0 = omega arith in
    let alone : IsNext (places (word ∷ [])) 0 (Some k) = (
      omega arith,
      one-place word k lowest.within ∙ eq-eqb _ _ lowest.on,
      λ i after before. one-place word i (omega (arith, lowest.within)) ∙ ap (λ b. eqb b 1) (lowest.below i before),
    ) in
    subst (λ j. IsNext (places words) (64 * b) (Some (64 * j + k))) high
    (next-here words (64 * b) k word (ap (λ j. get_or words j 0) high ∙ read) (subst (λ j. IsNext (places (word ∷ [])) j (Some k)) (sym low) alone))

-- the rest of the first word is off, and so is all up to the word that the level above tells
pub next-below : (upper words : List ℕ) (from m b r : ℕ) → Summarizes upper words → from ≤ 64 * m → AreOff (places words) from (64 * m)
    → IsNext (places upper) m (Some b) → IsNext (places words) (64 * b) (Some r) → IsNext (places words) from (Some r)
next-below upper words from m b r s le before next here = (
  omega (arith, next.0, here.0),
  here.1,
  off-append (places words) from (64 * b) r (off-append (places words) from (64 * m) (64 * b) before (passed upper words m b s next.2)) here.2,
)

pub next-below_none : (upper words : List ℕ) (from m : ℕ) → Summarizes upper words → length words ≤ length upper * 64 → AreOff (places words) from (64 * m)
    → IsNext (places upper) m None → IsNext (places words) from None
next-below_none upper words from m s long before none k after end =
    off-append (places words) from (64 * m) (64 * length (places upper)) before (passed upper words m (length (places upper)) s none) k after
    (omega (arith, length-places upper, length-places words))
