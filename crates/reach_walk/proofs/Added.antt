-- Things that are added behind those that were there.
use Rattle.std.proofs.Common.{◌≡◌, ℕ, ◌+◌, ◌<◌, ◌⊎◌, inl, inr, List, [], ◌∷◌, ◌++◌, length, get_or, take, Contains, refl, sym, ap, subst, ◌∙◌}
use Rattle.std.proofs.lemmas.List.{append-nil, append_assoc, take_more}
use Rattle.std.proofs.lemmas.List.Elements.{Contains-append_left, Contains-append_right, Contains-append_cases}
use Rattle.orca_names.specs.declared.names.Thing.{Thing}
use Rattle.orca_names.specs.declared.names.Thing.TheVariants.{Actor}
use Rattle.orca_names.specs.declared.names.Value.{Value}
use Rattle.orca_names.specs.Names.{owner_of}
use Rattle.reach_walk.specs.Reach.{named_by}
use Rattle.reach_walk.specs.Walk.{Adds, next_of}
use Rattle.reach_walk.proofs.Elements.{none_in_nil, only_one}

pub Adds-known : (t : Thing) (old : List Thing) → Contains old t → Adds (t ∷ []) old old
Adds-known t old there = record { behind = ([], sym (append-nil old)); added = λ x c. subst (Contains old) (only_one t x c) there; only = λ x c. inl c }

pub Adds-new : (t : Thing) (old : List Thing) → Adds (t ∷ []) old (old ++ t ∷ [])
Adds-new t old = record { behind = (t ∷ [], refl); added = λ x c. Contains-append_right old (t ∷ []) x c; only = λ x c. Contains-append_cases old (t ∷ []) x c }

-- what was there stays
pub still_there : (xs old new : List Thing) (x : Thing) → Adds xs old new → Contains old x → Contains new x
still_there xs old new x adds c = subst (λ ts. Contains ts x) (sym adds.behind.1) (Contains-append_left old adds.behind.0 x c)

-- one list after another
pub Adds-append : (xs ys a b c : List Thing) → Adds xs a b → Adds ys b c → Adds (xs ++ ys) a c
Adds-append xs ys a b c f g = record {
  behind = (f.behind.0 ++ g.behind.0, g.behind.1 ∙ ap (λ ts. ts ++ g.behind.0) f.behind.1 ∙ append_assoc a f.behind.0 g.behind.0);
  added = λ x d. elim (Contains-append_cases xs ys x d) as (λ _. Contains c x) [ inl e ↦ still_there ys b c x g (f.added x e) | inr e ↦ g.added x e ];
  only = λ x d. elim (g.only x d) as (λ _. Contains a x ⊎ Contains (xs ++ ys) x) [
    | inl e ↦ elim (f.only x e) as (λ _. Contains a x ⊎ Contains (xs ++ ys) x) [ inl h ↦ inl h | inr h ↦ inr (Contains-append_left xs ys x h) ]
    | inr e ↦ inr (Contains-append_right xs ys x e)
  ];
}

-- one thing more
pub Adds-more : (xs : List Thing) (i : ℕ) (t : Thing) (a b c : List Thing) → i < length xs → t ≡ get_or xs i t → Adds (take i xs) a b → Adds (t ∷ []) b c → Adds (take (i + 1) xs) a c
Adds-more xs i t a b c l at f g =
    let more : take (i + 1) xs ≡ take i xs ++ t ∷ [] = take_more xs i t l ∙ ap (λ u. take i xs ++ u ∷ []) (sym at) in
    subst (λ ts. Adds ts a c) (sym more) (Adds-append (take i xs) (t ∷ []) a b c f g)

pub Adds-none : (old : List Thing) → Adds [] old old
Adds-none old = record { behind = ([], sym (append-nil old)); added = λ x c. none_in_nil x _ c; only = λ x c. inl c }

-- the owner of a thing, and then what its row names
pub Adds-next : (edges : Thing → List Value) (t u : Thing) (values : List Value) (a b c : List Thing) → u ≡ t → values ≡ edges t → Adds (Actor (owner_of u) ∷ []) a b → Adds (named_by values) b c → Adds (next_of edges t) a c
Adds-next edges t u values a b c same row f g =
    Adds-append (Actor (owner_of t) ∷ []) (named_by (edges t)) a b c (subst (λ w. Adds (Actor (owner_of w) ∷ []) a b) same f) (subst (λ vs. Adds (named_by vs) b c) row g)
