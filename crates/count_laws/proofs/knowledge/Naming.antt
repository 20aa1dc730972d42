-- What lists of values name: padding with nulls names nothing, and one value set names one thing more.
use Rattle.std.proofs.Common.{◌≡◌, ℕ, zero, suc, ◌⊎◌, inl, inr, List, [], ◌∷◌, ◌++◌, Option, Some, None, refl}
use Rattle.std.specs.Prelude.{replicate, set, IfSome}
use Rattle.orca_names.specs.declared.names.Thing.{Thing}
use Rattle.orca_names.specs.declared.names.Value.{Value}
use Rattle.orca_names.specs.declared.names.Value.TheVariants.{Null}
use Rattle.reach_walk.specs.Reach.{thing_of}
use Rattle.turn_rules.proofs.Known.{Knows, Knows-from_named, Knows-set, named_is_known}
use Rattle.count_laws.specs.Known.{Names}

-- ---- nulls

knows_nulls : (K : Thing → Type 0) (n : ℕ) → Knows K (replicate n Null)
knows_nulls K zero = tt
knows_nulls K (suc n) = (tt, knows_nulls K n)

knows_append : (K : Thing → Type 0) (xs ys : List Value) → Knows K xs → Knows K ys → Knows K (xs ++ ys)
knows_append K [] ys h k = k
knows_append K (x ∷ xs) ys h k = (h.0, knows_append K xs ys h.1 k)

pub padded_names : (args : List Value) (n : ℕ) (x : Thing) → Names (args ++ replicate n Null) x → Names args x
padded_names args n x h =
    let K : Thing → Type 0 = Names args in
    named_is_known K (args ++ replicate n Null) (knows_append K args (replicate n Null) (Knows-from_named K args (λ y c. c)) (knows_nulls K n)) x h

pub nulls_name_nothing : (n : ℕ) (x : Thing) → ¬ Names (replicate n Null) x
nulls_name_nothing n x h = named_is_known (λ y. ⊥) (replicate n Null) (knows_nulls (λ y. ⊥) n) x h

-- ---- one value is set

-- what is named afterwards was named before, or is named by the value
pub set_names : (vs : List Value) (i : ℕ) (v : Value) (x : Thing) → Names (set vs i v) x → Names vs x ⊎ (thing_of v ≡ Some x)
set_names vs i v x h =
    let K : Thing → Type 0 = λ y. Names vs y ⊎ (thing_of v ≡ Some y) in
    named_is_known K (set vs i v) (Knows-set K vs i v (Knows-from_named K vs (λ y c. inl c)) (known v (λ y e. inr e))) x h
  where
    known : {L : Thing → Type 0} (w : Value) → ((y : Thing) → thing_of w ≡ Some y → L y) → IfSome (thing_of w) L
    known {L = L} w f = by_thing (thing_of w) f
      where
        by_thing : (o : Option Thing) → ((y : Thing) → o ≡ Some y → L y) → IfSome o L
        by_thing None f = tt
        by_thing (Some y) f = f y refl
