-- All members of a token acknowledged it exactly where each of them did.
use Rattle.std.proofs.Common.{◌≡◌, ℕ, ◌==◌, Bool, true, List, [], ◌∷◌, refl, subst, ⊎_elim, eqb-true, arith}
use Rattle.std.specs.List.{list_all}
use Rattle.std.proofs.lemmas.Bool.{and_from, and_parts, or_cases, or_right}
use Rattle.std.proofs.lemmas.Bool.Decides.{nat_tests}
use Rattle.letter_kinds.specs.Detector.{Token, all_acked, has}

each_of_all : (p : ℕ → Bool) (ms : List ℕ) → list_all p ms ≡ true → (m : ℕ) → has ms m ≡ true → p m ≡ true
each_of_all p [] h m i = absurd (cc)
each_of_all p (x ∷ ms) h m i = ⊎_elim
    (λ e. subst (λ y. p y ≡ true) (eqb-true x m e) (and_parts (p x) (list_all p ms) h).0)
    (λ j. each_of_all p ms (and_parts (p x) (list_all p ms) h).1 m j)
    (or_cases (x == m) (has ms m) i)

has_first : (x : ℕ) (ms : List ℕ) → has (x ∷ ms) x ≡ true
has_first x ms = grind (arith, nat_tests)

all_of_each : (p : ℕ → Bool) (ms : List ℕ) → ((m : ℕ) → has ms m ≡ true → p m ≡ true) → list_all p ms ≡ true
all_of_each p [] h = refl
all_of_each p (x ∷ ms) h =
    and_from (p x) (list_all p ms) (h x (has_first x ms)) (all_of_each p ms (λ m i. h m (or_right (x == m) (has ms m) i)))

pub acked_each : (t : Token) → all_acked t ≡ true → (m : ℕ) → has t.members m ≡ true → has t.acked m ≡ true
acked_each t h = each_of_all (has t.acked) t.members h

pub each_acked : (t : Token) → ((m : ℕ) → has t.members m ≡ true → has t.acked m ≡ true) → all_acked t ≡ true
each_acked t h = all_of_each (has t.acked) t.members h
