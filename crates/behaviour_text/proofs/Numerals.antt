-- Numerals as std reads them.
use Rattle.behaviour_text.proofs.Choices.{both, and_true}
use Rattle.std.proofs.Common.{◌≡◌, ℕ, ◌<◌, ◌≤◌, ◌^◌, ◌&&◌, Bool, true, false, List, [], ◌∷◌, length, refl, ap, sym, ◌∙◌, arith, nat_lt, Some, None, Result, Ok, Err, IsAscii, if◌then◌else◌, lt-ltb, leb-true, zero, suc, nat_le, le-ltb, take, get_or}
use Rattle.std.specs.List.{list_all}
use Rattle.std.specs.Result.{OkIff, result_ok}
use Rattle.std.specs.Str.Parse.{ParsesUnsigned, digits_value}
use Rattle.std.specs.Char.{is_ascii_digit, digit_value}
use Rattle.std.proofs.lemmas.Str.{digit_value_digit}
use Rattle.std.specs.Prelude.{◌-◌, ◌*◌, ◌+◌, ◌==◌, not}
use Rattle.std.specs.Int.{IsInRange}
use Rattle.std.proofs.lemmas.Int.Digits.{digits_value_more}
use Rattle.std.proofs.lemmas.Str.Parse.{IsDigitsTest, IsNumeralModel, numerals_by_value, parse_digits, digit_at, digits_value_short, digits_value-take-le}
use borrow.Author.Rules.{rules}
use Rattle.behaviour_text.specs.Words.{has_numeral_form, numeral}

abbrev AreDigits : List ℕ → Type 0
AreDigits ds = list_all is_ascii_digit ds ≡ true

digits_test : IsDigitsTest AreDigits
digits_test = search rules

pub own : IsNumeralModel AreDigits (digits_value 10)
own = numerals_by_value AreDigits digits_test

pub digits_form : (bs : List ℕ) → has_numeral_form bs ≡ true → AreDigits bs × (0 < length bs)
digits_form [] h = cc
digits_form (d ∷ []) h = (ap (λ (b : Bool). b && true) h, omega arith)
digits_form (d ∷ e ∷ ds) h = ((both _ _ h).1, omega arith)

small_digit : (d : ℕ) → is_ascii_digit d ≡ true → d < 128
small_digit d h = let small : d ≤ 57 = leb-true d 57 (both (nat_le 48 d) (nat_le d 57) h).1 in omega arith

pub ascii_digits : (bs : List ℕ) → AreDigits bs → IsAscii bs
ascii_digits [] h i = omega arith
ascii_digits (d ∷ ds) h zero = small_digit d (both _ _ h).0
ascii_digits (d ∷ ds) h (suc i) = ascii_digits ds (both _ _ h).1 i

and_false : (b c : Bool) → c ≡ false → (b && c) ≡ false
and_false true c h = h
and_false false c h = refl

bounded : (b : Bool) (n : ℕ) → b ≡ true → n < 2 ^ 64 → Some n ≡ (if b && nat_lt n (2 ^ 64) then Some n else None)
bounded b n e h = ap (λ (x : Bool). if x then Some n else None) (sym (and_true b (nat_lt n (2 ^ 64)) e (lt-ltb n (2 ^ 64) h)))

unbounded : (b : Bool) (n : ℕ) → ¬ (n < 2 ^ 64) → None ≡ (if b && nat_lt n (2 ^ 64) then Some n else None)
unbounded b n h = ap (λ (x : Bool). if x then Some n else None) (sym (and_false b (nat_lt n (2 ^ 64)) (le-ltb n (2 ^ 64) (omega arith))))

read : {E : Type 0} (bs : List ℕ) (r : Result ℕ E) → OkIff r ((0 < length bs) × (digits_value 10 bs < 2 ^ 64)) (digits_value 10 bs) →
    0 < length bs → has_numeral_form bs ≡ true → result_ok r ≡ numeral bs
read bs (Ok n) iff some form = ap Some iff.1 ∙ bounded (has_numeral_form bs) (digits_value 10 bs) form iff.0.1
read bs (Err e) iff some form = unbounded (has_numeral_form bs) (digits_value 10 bs) (λ h. iff (some, h))

pub numeral_is : {E : Type 0} (bs : List ℕ) (r : Result ℕ E) → ParsesUnsigned 64 10 bs r → has_numeral_form bs ≡ true → result_ok r ≡ numeral bs
numeral_is bs r h form =
    read bs r (parse_digits own 64 bs r h (digits_form bs form).0) (digits_form bs form).1 form

-- ---- numerals of one digit and of two

in_range : (d : ℕ) → is_ascii_digit d ≡ true → IsInRange 48 57 d
in_range d h = (leb-true 48 d (both (nat_le 48 d) (nat_le d 57) h).0, leb-true d 57 (both (nat_le 48 d) (nat_le d 57) h).1)

pub one_digit_is : (d : ℕ) → is_ascii_digit d ≡ true → Some (d - 48) ≡ numeral (d ∷ [])
one_digit_is d h =
    let range = in_range d h in
    let value : d - 48 ≡ 0 * 10 + digit_value d = omega (arith, digit_value_digit d range) in
    ap Some value ∙ bounded (is_ascii_digit d) (0 * 10 + digit_value d) h (omega (arith, digit_value_digit d range, range.1))

pub two_digits_are : (d e : ℕ) → not (d == 48) ≡ true → is_ascii_digit d ≡ true → is_ascii_digit e ≡ true → Some (10 * (d - 48) + (e - 48)) ≡ numeral (d ∷ e ∷ [])
two_digits_are d e n h k =
    let r = in_range d h in
    let q = in_range e k in
    let value : 10 * (d - 48) + (e - 48) ≡ (0 * 10 + digit_value d) * 10 + digit_value e = omega (arith, digit_value_digit d r, digit_value_digit e q) in
    let form : (not (d == 48) && (is_ascii_digit d && (is_ascii_digit e && true))) ≡ true = and_true _ _ n (and_true _ _ h (and_true _ _ k refl)) in
    ap Some value ∙ bounded (not (d == 48) && (is_ascii_digit d && (is_ascii_digit e && true))) ((0 * 10 + digit_value d) * 10 + digit_value e) form (omega (arith, digit_value_digit d r, digit_value_digit e q, r.1, q.1))

-- ---- numerals of at most 19 digits

-- one digit more
pub digits_more : (ds : List ℕ) (i n : ℕ) → list_all is_ascii_digit ds ≡ true → i < length ds → n ≡ digits_value 10 (take i ds) →
    10 * n + (get_or ds i 0 - 48) ≡ digits_value 10 (take (i + 1) ds)
digits_more ds i n h l e =
    let value : digits_value 10 (take (i + 1) ds) ≡ digits_value 10 (take i ds) * 10 + digit_value (get_or ds i 0) = digits_value_more 10 ds i l in
    omega (arith, value, e, digit_value_digit (get_or ds i 0) (digit_at ds i (own.to ds h) l))

-- with one digit more it has 64 bits still
pub digits_fit : (ds : List ℕ) (i n : ℕ) → list_all is_ascii_digit ds ≡ true → length ds ≤ 19 → i < length ds → n ≡ digits_value 10 (take i ds) →
    10 * n + (get_or ds i 0 - 48) < 2 ^ 64
digits_fit ds i n h few l e =
    let most : digits_value 10 ds < 10 ^ 19 = digits_value_short own ds 19 h few in
    omega (arith, digits_more ds i n h l e, digits_value-take-le 10 ds (i + 1) (omega arith), most)
