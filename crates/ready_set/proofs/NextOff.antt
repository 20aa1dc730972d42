-- The next place that is off.
use Rattle.std.proofs.Common.{◌≡◌, ℕ, ◌+◌, ◌-◌, ◌*◌, ◌/◌, ◌%◌, ◌^◌, ◌<◌, ◌≤◌, true, false, eqb, List, [], ◌∷◌, get_or, None, Some, sym, ap, ◌∙◌, arith, w64}
use Rattle.std.specs.Int.{bit_at, bit_not}
use Rattle.std.proofs.lemmas.Nat.Bits.{bit_at_not, bit_at-lt}
use Rattle.std.proofs.lemmas.Bool.{eq-eqb}
use Rattle.std.proofs.lemmas.Bool.Decides.{nat_tests}
use Rattle.ready_set.specs.Levels.{places}
use Rattle.ready_set.specs.Next.{AreOn, IsNext}
use Rattle.ready_set.proofs.Words.{length-places}
use Rattle.ready_set.proofs.NextBits.{in-word, one-place, on-within}

-- what is off in the word turned round is on in the word, and the other way round
module _ (word k : ℕ) (small : word < 2 ^ 64) (within : k < 64) where
  turned : eqb (bit_at (bit_not w64 word) k) 1 ≡ eqb (1 - bit_at word k) 1
  turned = ap (λ b. eqb b 1) (bit_at_not w64 word k small within)

  pub on-turned : get_or (places (bit_not w64 word ∷ [])) k false ≡ false → get_or (places (word ∷ [])) k false ≡ true
  on-turned off =
      let e : eqb (1 - bit_at word k) 1 ≡ false = sym turned ∙ sym (one-place (bit_not w64 word) k within) ∙ off in
      let below = bit_at-lt word k in
      let bit : bit_at word k ≡ 1 = grind (arith, nat_tests) in
      one-place word k within ∙ eq-eqb (bit_at word k) 1 bit

  pub off-turned : get_or (places (bit_not w64 word ∷ [])) k false ≡ true → get_or (places (word ∷ [])) k false ≡ false
  off-turned on =
      let e : eqb (1 - bit_at word k) 1 ≡ true = sym turned ∙ sym (one-place (bit_not w64 word) k within) ∙ on in
      let below = bit_at-lt word k in
      let bit : bit_at word k ≡ 0 = grind (arith, nat_tests) in
      one-place word k within ∙ ap (λ b. eqb b 1) bit

-- so what is off there before the next is on here
pub some-on : (word from k : ℕ) → word < 2 ^ 64 → IsNext (places (bit_not w64 word ∷ [])) from (Some k) → AreOn (places (word ∷ [])) from k
some-on word from k small next i after before =
    on-turned word i small (omega (arith, on-within (bit_not w64 word) k next.1)) (next.2 i after before)

pub some-off : (word from k : ℕ) → word < 2 ^ 64 → IsNext (places (bit_not w64 word ∷ [])) from (Some k) → get_or (places (word ∷ [])) k false ≡ false
some-off word from k small next = off-turned word k small (on-within (bit_not w64 word) k next.1) next.1

pub none-on : (word from : ℕ) → word < 2 ^ 64 → IsNext (places (bit_not w64 word ∷ [])) from None → AreOn (places (word ∷ [])) from 64
none-on word from small none i after before =
    on-turned word i small before (none i after (omega (arith, length-places (bit_not w64 word ∷ []))))

-- what is on in a word alone is on in the words
pub on-in-word : (words : List ℕ) (at end word : ℕ) → get_or words (at / 64) 0 ≡ word → end ≤ 64 → AreOn (places (word ∷ [])) (at % 64) end → AreOn (places words) at (64 * (at / 64) + end)
on-in-word words at end word read most on k after before =
    let place : 64 * (at / 64) + k % 64 ≡ k = omega arith in
    ap (λ n. get_or (places words) n false) (sym place) ∙ in-word words (at / 64) (k % 64) word read (omega arith) ∙ on (k % 64) (omega arith) (omega arith)
