-- A front of what is left is copied.
use Rattle.std.proofs.Common.{◌≡◌, ℕ, ◌+◌, ◌≤◌, List, [], ◌++◌, length, take, drop, sym, ap, ◌∙◌, take_at, take-append-drop, drop-drop, length-take-le, drop_of_length-le}

-- n bytes read from place `at` into a buffer, and what is left behind them
pub drop-front_read : (xs copied more : List ℕ) (at n : ℕ) → n ≤ length (drop at xs) → copied ≡ take n (drop at xs)
    → drop at xs ≡ take n (copied ++ more) ++ drop (at + n) xs
drop-front_read xs copied more at n fits e =
    sym (take-append-drop n (drop at xs))
    ∙ (ap (λ (ys : List ℕ). ys ++ drop n (drop at xs)) (sym e ∙ sym (take_at copied more n (ap length e ∙ length-take-le n (drop at xs) fits)))
    ∙ ap (λ (ys : List ℕ). take n (copied ++ more) ++ ys) (drop-drop n at xs))

-- where all that is left was read, nothing is left
pub drop-all_read : (xs : List ℕ) (at n : ℕ) → length (drop at xs) ≤ n → drop (at + n) xs ≡ []
drop-all_read xs at n all = sym (drop-drop n at xs) ∙ drop_of_length-le (drop at xs) {i = n} all
