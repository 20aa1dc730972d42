-- A map with another value at one place.
use Rattle.std.proofs.Common.{◌≡◌, ◌≢◌, ℕ, ◌==◌, Bool, true, false, if◌then◌else◌, arith, refl, sym, subst, eqb-true}
use Rattle.std.proofs.lemmas.Bool.{eqb-false}
use Rattle.std.proofs.lemmas.Bool.Decides.{nat_tests}
use Rattle.detector_laws.specs.World.{at}

at_split : {A : Type 0} (P : ℕ → A → Type 0) (f : ℕ → A) (a : ℕ) (v : A) (b : ℕ) (t : Bool) → (b == a) ≡ t → P a v → (b ≢ a → P b (f b)) → P b (if t then v else f b)
at_split P f a v b true e here there = subst (λ x. P x v) (sym (eqb-true b a e)) here
at_split P f a v b false e here there = there (eqb-false b a e)

-- what holds at a, and at each other
pub at_cases : {A : Type 0} (P : ℕ → A → Type 0) (f : ℕ → A) (a : ℕ) (v : A) → P a v → ((b : ℕ) → b ≢ a → P b (f b)) → (b : ℕ) → P b (at f a v b)
at_cases P f a v here there b = at_split P f a v b (b == a) refl here (there b)

pub at_same : {A : Type 0} (f : ℕ → A) (a : ℕ) (v : A) → at f a v a ≡ v
at_same f a v = grind (arith, nat_tests)

pub at_other : {A : Type 0} (f : ℕ → A) (a : ℕ) (v : A) (b : ℕ) → b ≢ a → at f a v b ≡ f b
at_other f a v b ne = grind (arith, nat_tests)
