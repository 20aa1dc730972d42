-- What holds of each pass of a list.
use Rattle.std.proofs.Common.{◌≡◌, ◌∙◌, Bool, true, false, List, [], ◌∷◌, ◌++◌, All, map, arith, subst, sym}
use Rattle.std.specs.Prelude.{if◌then◌else◌}
use Rattle.std.proofs.lemmas.List.Elements.{All-append, All-cons, All-nil, All-tail}

-- where f gives the same lists of both, it gives y of each element of the one as of the other
pub all_by_map : {X Y : Type 0} (f : X → Y) (y : Y) (xs ys : List X) → map f ys ≡ map f xs → All (λ x. f x ≡ y) xs → All (λ x. f x ≡ y) ys
all_by_map f y xs [] e h = All-nil (λ x. f x ≡ y)
all_by_map f y [] (z ∷ ys) e h = absurd (cc)
all_by_map f y (x ∷ xs) (z ∷ ys) e h =
    let first : f z ≡ f x = cc in
    let rest : map f ys ≡ map f xs = cc in
    All-cons (λ x. f x ≡ y) z ys (first ∙ h 0 x (omega arith)) (all_by_map f y xs ys rest (All-tail (λ x. f x ≡ y) x xs h))

-- P holds of each after a push, whether there was memory for it or not
pub all_pushed : {X : Type 0} (P : X → Type 0) (pushed : Bool) (x : X) (xs ys : List X) → ys ≡ (if pushed then xs ++ x ∷ [] else xs) → P x → All P xs
    → All P ys
all_pushed P true x xs ys e one h = subst (All P) (sym e) (All-append P xs (x ∷ []) h (All-cons P x [] one (All-nil P)))
all_pushed P false x xs ys e one h = subst (All P) (sym e) h
