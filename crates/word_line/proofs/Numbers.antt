-- A number that std reads is the number that `clap` takes.
use Rattle.std.proofs.Common.{◌≡◌, ◌≢◌, ℕ, ◌≤◌, ◌||◌, List, Bool, true, false, Some, None, Ok, Err, if◌then◌else◌, ap, ◌∙◌, refl, arith}
use Rattle.std.specs.declared.result.Result.{Result}
use Rattle.std.specs.Str.Parse.{ParsesUnsigned, digits_value, without_leading_plus}
use Rattle.std.proofs.lemmas.Result.{OkIff-at_ok, OkIff-at_err}
use Rattle.clap.specs.ValueTests.{accepts}
use Rattle.clap.specs.declared.builder.value_parser.ValueParser.TheVariants as vp
use Rattle.clap.proofs.ValueTestLemmas.{accepts-Accepts, Accepts-accepts}
use Rattle.word_line.specs.Orders.{number_in}

some_where : (b : Bool) (v : ℕ) → b ≡ true → Some v ≡ (if b then Some v else None)
some_where true v e = refl
some_where false v e = cc

none_where_not : (b : Bool) (v : ℕ) → b ≢ true → None ≡ (if b then Some v else None)
none_where_not true v e = absurd (e refl)
none_where_not false v e = refl

-- a number that was read, and lies from the least to the most
pub number_in-inside : {E : Type 0} (least most n : ℕ) (text : List ℕ) (r : Result ℕ E) → r ≡ Ok n → ParsesUnsigned 64 10 text r → least ≤ n → n ≤ most
    → Some n ≡ number_in least most text
number_in-inside least most n text r e h low high =
    let p = OkIff-at_ok r _ _ n h e in
    ap Some p.1 ∙ some_where (accepts false (vp.Unsigned least most) text) (digits_value 10 (without_leading_plus text))
    (Accepts-accepts false (vp.Unsigned least most) text (p.0.0, p.0.1, omega (arith, p.1, low), omega (arith, p.1, high)))

-- what is read as no number
pub number_in-no_number : {E : Type 0} (least most : ℕ) (e : E) (text : List ℕ) (r : Result ℕ E) → r ≡ Err e → ParsesUnsigned 64 10 text r
    → None ≡ number_in least most text
number_in-no_number least most e text r is h =
    none_where_not (accepts false (vp.Unsigned least most) text) (digits_value 10 (without_leading_plus text)) (λ t.
    let a = accepts-Accepts false (vp.Unsigned least most) text t in
    OkIff-at_err r _ _ e h is (a.0, a.1))

-- no argument is global
pub none_global : (new old g : Bool) → new ≡ (old || g) → old ≡ false → g ≡ false → new ≡ false
none_global new old g e o a = e ∙ (ap (λ (b : Bool). b || g) o ∙ a)
