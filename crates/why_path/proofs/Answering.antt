-- Answers over all elements of a list.
use Rattle.std.proofs.Common.{◌≡◌, ◌↔◌, ℕ, ◌+◌, ◌<◌, ◌≤◌, Bool, true, false, List, length, get_or, take, refl, sym, subst}
use Rattle.std.specs.Prelude.{All}
use Rattle.std.proofs.lemmas.List.{take_all}
use Rattle.std.proofs.lemmas.List.Elements.{All-more}

-- one answer after another
pub joined : {P Q : Type 0} {b : Bool} → b ≡ true ↔ P → P ↔ Q → b ≡ true ↔ Q
joined says same = ((λ e. same.0 (says.0 e)), (λ q. says.1 (same.1 q)))

module _ {P : Type 0} {b : Bool} (says : b ≡ true ↔ P) where
  -- what a test that failed says
  pub not_so : b ≡ false → ¬ P
  not_so failed p = let passed = says.1 p in cc

module _ {X : Type 0} (P : X → Type 0) (xs : List X) where
  -- one element is not so
  pub not_all : (i : ℕ) (x : X) → i < length xs → x ≡ get_or xs i x → ¬ P x → false ≡ true ↔ All P xs
  not_all i x l is fails = ((λ e. cc), (λ all. absurd (fails (subst P (sym is) (all i x l)))))

  -- one element more is so
  pub all_more : (i : ℕ) (x : X) → i < length xs → x ≡ get_or xs i x → All P (take i xs) → P x → All P (take (i + 1) xs)
  all_more i x l is all p = All-more P xs i x l all (subst P is p)

  -- all are so
  pub all_so : (i : ℕ) → length xs ≤ i → All P (take i xs) → true ≡ true ↔ All P xs
  all_so i whole all = ((λ _. subst (All P) (take_all i xs whole) all), (λ _. refl))
