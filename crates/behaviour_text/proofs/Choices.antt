-- Facts of tests, choices and lists that speak of no text.
use Rattle.std.proofs.Common.{◌≡◌, ◌≤◌, Bool, true, false, cond, List, [], ◌∷◌, ◌++◌, ◌&&◌, ◌||◌, filter, length, length-append, refl, Option, Some, None, if◌then◌else◌, ◌⊎◌, inl, inr, arith, find, map, option_map}
use Rattle.std.specs.List.{AllByRecursion}
use Rattle.std.specs.Option.{option_or}

pub both : (a b : Bool) → (a && b) ≡ true → (a ≡ true) × (b ≡ true)
both true b h = (refl, h)
both false b h = cc

pub and_true : (a b : Bool) → a ≡ true → b ≡ true → (a && b) ≡ true
and_true true b h k = k
and_true false b h k = cc

pub either : (a b : Bool) → (a || b) ≡ true → (a ≡ true) ⊎ (b ≡ true)
either true b h = inl refl
either false b h = inr h

pub neither : (a b : Bool) → (a || b) ≡ false → (a ≡ false) × (b ≡ false)
neither true b h = cc
neither false b h = (refl, h)

pub or_right : (a b : Bool) → b ≡ true → (a || b) ≡ true
or_right true b h = refl
or_right false b h = h

pub or_false : (a b : Bool) → a ≡ false → b ≡ false → (a || b) ≡ false
or_false true b h k = cc
or_false false b h k = k

pub option_or_none : {X : Type 0} (a b : Option X) → option_or a b ≡ None → (a ≡ None) × (b ≡ None)
option_or_none None b h = (refl, h)
option_or_none (Some a) b h = cc

-- a fault unless a test passes, which is not there
pub chosen_none : {X : Type 0} (b : Bool) (fault : Option X) (kind : X) → (if b then fault else Some kind) ≡ None → (b ≡ true) × (fault ≡ None)
chosen_none true fault kind h = (refl, h)
chosen_none false fault kind h = cc

-- a fault where a test passes, which is not there
pub no_fault : {X : Type 0} (b : Bool) (kind : X) → if◌then◌else◌ {A = Option X} b (Some kind) None ≡ None → b ≡ false
no_fault true kind h = cc
no_fault false kind h = refl

pub filter_first : {X : Type 0} (p : X → Bool) (x : X) (xs : List X) → filter p (x ∷ []) ++ filter p xs ≡ filter p (x ∷ xs)
filter_first p x xs = by_test (p x)
  where
    by_test : (b : Bool) → cond b (x ∷ []) [] ++ filter p xs ≡ cond b (x ∷ filter p xs) (filter p xs)
    by_test true = refl
    by_test false = refl

-- a list to which one may be added does not shrink
pub push_grows : {X : Type 0} (b : Bool) (xs : List X) (x : X) → length xs ≤ length (if b then xs else xs ++ x ∷ [])
push_grows true xs x = omega arith
push_grows false xs x = omega (arith, length-append xs (x ∷ []))

pub each_push : {X : Type 0} (P : X → Type 0) (xs : List X) (x : X) → AllByRecursion P xs → P x → AllByRecursion P (xs ++ x ∷ [])
each_push P [] x h k = (k, tt)
each_push P (y ∷ ys) x h k = (h.0, each_push P ys x h.1 k)

pub each_append : {X : Type 0} (P : X → Type 0) (xs ys : List X) → AllByRecursion P xs → AllByRecursion P ys → AllByRecursion P (xs ++ ys)
each_append P [] ys h k = k
each_append P (x ∷ xs) ys h k = (h.0, each_append P xs ys h.1 k)

pub each_weaker : {X : Type 0} (P Q : X → Type 0) (xs : List X) → ((x : X) → P x → Q x) → AllByRecursion P xs → AllByRecursion Q xs
each_weaker P Q [] f h = tt
each_weaker P Q (x ∷ xs) f h = (f x h.0, each_weaker P Q xs f h.1)

pub find_mapped : {X Y : Type 0} (f : X → Y) (p : Y → Bool) (xs : List X) → find p (map f xs) ≡ option_map f (find (λ x. p (f x)) xs)
find_mapped f p [] = refl
find_mapped {X} f p (x ∷ xs) = by_test (p (f x)) (find_mapped f p xs)
  where
    by_test : (b : Bool) → find p (map f xs) ≡ option_map f (find (λ x. p (f x)) xs)
        → cond b (Some (f x)) (find p (map f xs)) ≡ option_map f (cond b (Some x) (find (λ x. p (f x)) xs))
    by_test true h = refl
    by_test false h = h
