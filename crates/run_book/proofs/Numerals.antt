-- What a numeral has in it: digits alone.
use Rattle.std.proofs.Common.{◌≡◌, ◌≢◌, ap, sym, ◌∙◌, MatchOption, Option, Some, None, ℕ, ◌<◌, ◌^◌, List, [], ◌∷◌, ◌++◌, codes, decimal, subst, arith}
use Rattle.std.specs.Str.Parse.{AllDigits}
use Rattle.std.proofs.lemmas.Fmt.{decimal_is_IsNumeral}
use Rattle.std.proofs.lemmas.Str.Parse.{digit_from_value}
use Rattle.std.proofs.lemmas.List.{append_cancel_left}

pub digits : (n : ℕ) → n < 2 ^ 64 → AllDigits 10 (decimal n)
digits n h = (decimal_is_IsNumeral n h).0.1

digits_behind : (front back : List ℕ) → AllDigits 10 (front ++ back) → AllDigits 10 back
digits_behind [] back h = h
digits_behind (d ∷ front) back h = digits_behind front back h.1

-- no numeral has a blank
pub no_roots : (n : ℕ) (front : List ℕ) → n < 2 ^ 64 → decimal n ≡ front ++ codes " roots" → ⊥
no_roots n front h e =
    let blank = digit_from_value 32
    (digits_behind front (codes " roots") (subst (AllDigits 10) e (digits n h))).0 in
    omega (arith, blank.0)

-- a numeral behind words, where it is read and where there is none
pub behind_words : (line words rest : List ℕ) (r : Option ℕ) → line ≡ words ++ rest →
    MatchOption r ((n : ℕ) → n < 2 ^ 64 → rest ≢ decimal n) (λ n. rest ≡ decimal n) →
    MatchOption r ((n : ℕ) → n < 2 ^ 64 → line ≢ words ++ decimal n) (λ n. line ≡ words ++ decimal n)
behind_words line words rest None whole none =
    λ n fits e. none n fits (append_cancel_left words rest (decimal n) (sym whole ∙ e))
behind_words line words rest (Some n) whole read = whole ∙ ap (λ (back : List ℕ). words ++ back) read
