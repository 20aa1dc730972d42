-- The things that values name, one value after another.
use Rattle.std.proofs.Common.{◌≡◌, ℕ, ◌+◌, ◌<◌, List, [], ◌∷◌, ◌++◌, length, get_or, take, Option, None, Some, sym, ap, ◌∙◌}
use Rattle.std.specs.List.{cons_option}
use Rattle.std.proofs.lemmas.List.{take_more, append-nil, append_assoc}
use Rattle.std.proofs.lemmas.List.Elements.{filter_map-append}
use Rattle.orca_names.specs.declared.names.Thing.{Thing}
use Rattle.orca_names.specs.declared.names.Value.{Value}
use Rattle.reach_walk.specs.Reach.{named_by, thing_of}

-- one value more
named_by-more : (values : List Value) (i : ℕ) (v : Value) (o : Option Thing) → i < length values → v ≡ get_or values i v → thing_of v ≡ o → named_by (take (i + 1) values) ≡ named_by (take i values) ++ cons_option o []
named_by-more values i v o inside at named =
    ap named_by (take_more values i v inside) ∙ filter_map-append thing_of (take i values) (get_or values i v ∷ [])
    ∙ ap (λ u. named_by (take i values) ++ cons_option (thing_of u) []) (sym at) ∙ ap (λ p. named_by (take i values) ++ cons_option p []) named

-- the value names a thing
pub push-named : (old things : List Thing) (values : List Value) (i : ℕ) (v : Value) (t : Thing) → i < length values → v ≡ get_or values i v → things ≡ old ++ named_by (take i values) → thing_of v ≡ Some t
    → things ++ t ∷ [] ≡ old ++ named_by (take (i + 1) values)
push-named old things values i v t inside at so_far named =
    ap (λ ts. ts ++ t ∷ []) so_far ∙ append_assoc old (named_by (take i values)) (t ∷ []) ∙ ap (λ ts. old ++ ts) (sym (named_by-more values i v (Some t) inside at named))

-- the value names nothing
pub push-none : (old things : List Thing) (values : List Value) (i : ℕ) (v : Value) → i < length values → v ≡ get_or values i v → things ≡ old ++ named_by (take i values) → thing_of v ≡ None
    → things ≡ old ++ named_by (take (i + 1) values)
push-none old things values i v inside at so_far named =
    so_far ∙ ap (λ ts. old ++ ts) (sym (named_by-more values i v None inside at named ∙ append-nil (named_by (take i values))))

-- one value more, by itself
pub named_by-push : (values : List Value) (i : ℕ) (v : Value) → i < length values → v ≡ get_or values i v → named_by (take (i + 1) values) ≡ named_by (take i values) ++ named_by (v ∷ [])
named_by-push values i v inside at =
    ap named_by (take_more values i v inside) ∙ filter_map-append thing_of (take i values) (get_or values i v ∷ [])
    ∙ ap (λ u. named_by (take i values) ++ named_by (u ∷ [])) (sym at)
