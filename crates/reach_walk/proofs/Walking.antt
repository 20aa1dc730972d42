-- A walk begins, goes on, and ends.
use Rattle.std.proofs.Common.{◌≡◌, ℕ, ◌+◌, ◌<◌, ◌≤◌, inl, inr, List, [], ◌∷◌, ◌++◌, length, take, get_or, Contains, Some, sym, ap, subst, ◌∙◌, arith}
use Rattle.std.specs.Prelude.{slice_get}
use Rattle.std.proofs.lemmas.List.{length-append, take_more, take_all, take-append-le}
use Rattle.std.proofs.lemmas.List.Elements.{Contains-push_cases}
use Rattle.std.proofs.lemmas.Option.{slice_get_within, get_or_from_slice_get}
use Rattle.orca_names.specs.Names.{owner_of}
use Rattle.orca_names.specs.declared.names.Thing.{Thing}
use Rattle.orca_names.specs.declared.names.Thing.TheVariants.{Actor, Obj}
use Rattle.orca_names.specs.declared.names.Value.{Value}
use Rattle.reach_walk.specs.Reach.{named_by, Reaches, root, step, owned}
use Rattle.reach_walk.specs.Walk.{next_of, Adds}
use Rattle.reach_walk.proofs.Elements.{Contains-head, Contains-later, Contains-cons_cases, none_in_nil}
use Rattle.reach_walk.proofs.Added.{still_there}
use Rattle.reach_walk.proofs.Owners.{owner_reached}

-- these were seen, and the first of them are done with
pub record Walks (edges : Thing → List Value) (roots seen : List Thing) (done : ℕ) : Type 0 where
  pub reached : (x : Thing) → Contains seen x → Reaches edges roots x
  pub within : done ≤ length seen
  pub roots_seen : (x : Thing) → Contains roots x → Contains seen x
  pub next_seen : (t x : Thing) → Contains (take done seen) t → Contains (next_of edges t) x → Contains seen x

module _ (edges : Thing → List Value) (roots : List Thing) where
  pub begins : (seen : List Thing) → Adds roots [] seen → Walks edges roots seen 0
  begins seen adds = record {
    reached = λ x c. elim (adds.only x c) as (λ _. Reaches edges roots x) [ inl d ↦ none_in_nil x _ d | inr d ↦ root d ];
    within = omega arith;
    roots_seen = adds.added;
    next_seen = λ t x c d. none_in_nil t _ c;
  }

  next_reached : (t x : Thing) → Reaches edges roots t → Contains (next_of edges t) x → Reaches edges roots x
  next_reached t x r c = elim (Contains-cons_cases (Actor (owner_of t)) (named_by (edges t)) x c) as (λ _. Reaches edges roots x) [
    | inl e ↦ subst (Reaches edges roots) e (owner_reached edges roots t r)
    | inr d ↦ step r d
  ]

  -- one thing more is done with
  pub goes_on : (seen more : List Thing) (done : ℕ) (t : Thing) → Walks edges roots seen done → slice_get seen done ≡ Some t → Adds (next_of edges t) seen more → Walks edges roots more (done + 1)
  goes_on seen more done t walks at adds =
      let inside : done < length seen = slice_get_within seen done t at in
      let it : get_or seen done t ≡ t = get_or_from_slice_get seen done t t at in
      let reached : Reaches edges roots t = walks.reached t (done, inside, it) in
      let fresh = adds.behind.0 in
      let front : take (done + 1) more ≡ take done seen ++ t ∷ [] =
      ap (take (done + 1)) adds.behind.1 ∙ take-append-le (done + 1) seen fresh (omega arith) ∙ take_more seen done t inside ∙ ap (λ u. take done seen ++ u ∷ []) it
      in
      record {
        reached = λ x c. elim (adds.only x c) as (λ _. Reaches edges roots x) [ inl d ↦ walks.reached x d | inr d ↦ next_reached t x reached d ];
        within = let longer = ap length adds.behind.1 ∙ length-append seen fresh in omega arith;
        roots_seen = λ x c. still_there (next_of edges t) seen more x adds (walks.roots_seen x c);
        next_seen = λ u x c d. elim (Contains-push_cases (take done seen) t u (subst (λ ts. Contains ts u) front c)) as (λ _. Contains more x) [
          | inl e ↦ still_there (next_of edges t) seen more x adds (walks.next_seen u x e d)
          | inr e ↦ adds.added x (subst (λ z. Contains (next_of edges z) x) (sym e) d)
        ];
      }

  -- where all are done with, all that is reached was seen
  met : (seen : List Thing) → Walks edges roots seen (length seen) → (x : Thing) → Reaches edges roots x → Contains seen x
  met seen walks x (root c) = walks.roots_seen x c
  met seen walks x (step {t} r c) = walks.next_seen t x (subst (λ ts. Contains ts t) (sym (take_all (length seen) seen (omega arith))) (met seen walks t r)) (Contains-later (Actor (owner_of t)) (named_by (edges t)) x c)
  met seen walks _ (owned {n} r) = walks.next_seen (Obj n) (Actor n.owner) (subst (λ ts. Contains ts (Obj n)) (sym (take_all (length seen) seen (omega arith))) (met seen walks (Obj n) r)) (Contains-head (Actor n.owner) (named_by (edges (Obj n))))

  pub ends : (seen : List Thing) (done : ℕ) → length seen ≤ done → Walks edges roots seen done → (x : Thing) → (Contains seen x → Reaches edges roots x) × (Reaches edges roots x → Contains seen x)
  ends seen done end walks x =
      let all : done ≡ length seen = omega (arith, walks.within) in
      (walks.reached x, met seen (subst (Walks edges roots seen) all walks) x)
