-- Entries whose keys rise, where some are left out.
use Rattle.std.proofs.Common.{Bool, true, false, cond, ◌&&◌, List, [], ◌∷◌, Ordering}
use Rattle.std.specs.Prelude.{T}
use Rattle.std.specs.List.{filter}
use Rattle.std.specs.FinMap.Entries.{below_all, is_sorted}

pub both : (a b : Bool) → T a → T b → T (a && b)
both true b p q = q
both false b p q = p

pub first : (a b : Bool) → T (a && b) → T a
first true b p = tt
first false b p = p

pub second : (a b : Bool) → T (a && b) → T b
second true b p = p
second false b p = absurd p

module _ {K X : Type 0} (R : K → K → Ordering) where
  below-filter : (x : K) (p : K × X → Bool) (es : List (K × X)) → T (below_all R x es) → T (below_all R x (filter p es))
  below-filter x p [] h = tt
  below-filter x p (e ∷ es) h =
      let rest = below-filter x p es (second _ _ h) in
      elim (p e) as (λ b. T (below_all R x (cond b (e ∷ filter p es) (filter p es)))) [ true ↦ both _ _ (first _ _ h) rest | false ↦ rest ]

  -- the others still rise
  pub is_sorted-filter : (p : K × X → Bool) (es : List (K × X)) → T (is_sorted R es) → T (is_sorted R (filter p es))
  is_sorted-filter p [] h = tt
  is_sorted-filter p (e ∷ es) h =
      let rest = is_sorted-filter p es (second _ _ h) in
      elim (p e) as (λ b. T (is_sorted R (cond b (e ∷ filter p es) (filter p es)))) [ true ↦ both _ _ (below-filter e.0 p es (first _ _ h)) rest | false ↦ rest ]
