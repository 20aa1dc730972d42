-- The limits of a program that some text gives.
use Rattle.std.proofs.Common.{◌≡◌, ℕ, zero, suc, ◌≤◌, List, [], ◌∷◌, length, slice_get, Option, Some, None, refl, subst, arith}
use Rattle.std.specs.List.{AllByRecursion}
use Rattle.std.specs.Option.{option_map_or}
use Rattle.behaviour_code.specs.declared.code.Behaviour.{Behaviour}
use Rattle.behaviour_code.specs.declared.code.Kind.{Kind}
use Rattle.behaviour_code.specs.declared.code.Program.{Program}
use Rattle.behaviour_code.specs.Find.{behaviours_of, body_of}
use Rattle.behaviour_code.specs.WellFormed.{BehaviourIsWellFormed, KindIsWellFormed, IsWellFormed}

pub AllByRecursion-slice_get : {X : Type 0} (P : X → Type 0) (xs : List X) (i : ℕ) (x : X) → AllByRecursion P xs → slice_get xs i ≡ Some x → P x
AllByRecursion-slice_get P [] i x each found = cc
AllByRecursion-slice_get P (y ∷ ys) zero x each found = let same : y ≡ x = cc in subst P same each.0
AllByRecursion-slice_get P (y ∷ ys) (suc i) x each found = AllByRecursion-slice_get P ys i x each.1 found

pub behaviours_are_good : (p : Program) (kind : ℕ) → IsWellFormed p → AllByRecursion (BehaviourIsWellFormed p.names) (behaviours_of p kind)
behaviours_are_good p kind good = cases (slice_get p.kinds kind) refl
  where
    cases : (found : Option Kind) → slice_get p.kinds kind ≡ found → AllByRecursion (BehaviourIsWellFormed p.names) (option_map_or (λ k. k.behaviours) found [])
    cases None e = tt
    cases (Some k) e = (AllByRecursion-slice_get (KindIsWellFormed p.names) p.kinds kind k good.kinds e).behaviours

-- no body has more than 1,024 instructions
pub body_is_short : (p : Program) (kind behaviour : ℕ) → IsWellFormed p → length (body_of p kind behaviour) ≤ 1024
body_is_short p kind behaviour good = cases (slice_get (behaviours_of p kind) behaviour) refl
  where
    cases : (found : Option Behaviour) → slice_get (behaviours_of p kind) behaviour ≡ found → length (option_map_or (λ b. b.body) found []) ≤ 1024
    cases None e = omega arith
    cases (Some b) e = (AllByRecursion-slice_get (BehaviourIsWellFormed p.names) (behaviours_of p kind) behaviour b (behaviours_are_good p kind good) e).short
