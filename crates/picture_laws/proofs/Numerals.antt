-- The numeral of a number of 64 bits is that of no other number, however great.
use Rattle.std.proofs.Common.{◌≡◌, ◌<◌, ◌≤◌, ◌+◌, ◌/◌, ◌%◌, ◌^◌, ◌==◌, ℕ, zero, suc, false, if◌then◌else◌, List, [], ◌∷◌, length, inl, inr, ap, sym, ◌∙◌, arith}
use Rattle.std.specs.Fmt.{decimal, digit_glyph, digits, digits_onto}
use Rattle.std.specs.Str.Parse.{digits_value}
use Rattle.std.proofs.Math.Nat.{one-le-pow, pow-suc}
use Rattle.std.proofs.lemmas.Bool.{cases_lt}
use Rattle.std.proofs.lemmas.Bool.Decides.{nat_tests}
use Rattle.std.proofs.lemmas.Fmt.{decimal_is_IsNumeral_wide, length-decimal-le_wide}

not_none : (n : ℕ) → 0 < n → (n == 0) ≡ false
not_none n h = grind (arith, nat_tests, h)

-- a number of more digits fills all places
all_places : (k n : ℕ) (acc : List ℕ) → 10 ^ k ≤ n → length (digits_onto k 10 false n acc) ≡ k + length acc
all_places zero n acc h = omega arith
all_places (suc k) n acc h =
    let tenth : 10 ^ k ≤ n / 10 = omega (arith, h, pow-suc 10 k) in
    let some : 0 < 10 ^ k = one-le-pow k 10 (omega arith) in
    let more = all_places k (n / 10) (digit_glyph false (n % 10) ∷ acc) tenth in
    ap (λ b. length (if b then digit_glyph false (n % 10) ∷ acc else digits_onto k 10 false (n / 10) (digit_glyph false (n % 10) ∷ acc)))
    (not_none (n / 10) (omega (arith, tenth, some)))
    ∙ more ∙ (let e : k + suc (length acc) ≡ suc k + length acc = omega arith in e)

places_of : (n : ℕ) → 10 ^ 64 ≤ n → length (decimal n) ≡ 64
unfolding digits
places_of n h = all_places 64 n [] h

pub told_apart : (m n : ℕ) → n < 2 ^ 64 → decimal m ≡ decimal n → m ≡ n
told_apart m n fits e = elim (cases_lt m (10 ^ 64)) [
  | inl less ↦ sym (decimal_is_IsNumeral_wide m less).1 ∙ ap (digits_value 10) e ∙ (decimal_is_IsNumeral_wide n (omega (arith, fits))).1
  | inr past ↦ absurd (omega (arith, places_of m past, ap length e, length-decimal-le_wide 20 n (omega arith) (omega (arith, fits)) (omega (arith, fits))))
]
