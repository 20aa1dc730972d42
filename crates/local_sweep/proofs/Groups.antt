-- Amounts in groups of their owners.
use Rattle.std.proofs.Common.{◌≡◌, ℕ, Bool, true, false, cond, eqb, List, [], ◌∷◌, Option, Some, None, Ordering, refl, sym, ap, subst, ◌∙◌, arith}
use Rattle.std.specs.Prelude.{T, is_some}
use Rattle.std.specs.Option.{option_cmp, option_map_or}
use Rattle.std.specs.Ordering.{nat_cmp, eq_by_cmp, is_eq, is_lt, ordering_then}
use Rattle.std.specs.declared.cmp.Ordering.TheVariants.{Less, Equal, Greater}
use Rattle.std.specs.Cmp.{IsTotalOrder, nat_cmp_total, tied_itself}
use Rattle.std.specs.FinMap.Entries.{find, below_all, is_sorted}
use Rattle.std.proofs.lemmas.Bool.{eqb-true}
use Rattle.std.proofs.lemmas.Bool.Decides.{nat_tests}
use Rattle.orca_names.specs.Names.{is_thing, owner_of, serial_of, thing_cmp}
use Rattle.orca_names.specs.declared.names.Thing.{Thing}
use Rattle.orca_names.proofs.ThingOrder.{is_same, is_self, thing_total}
use Rattle.letter_kinds.specs.Counting.{Amount, by_owner, join_owner}
use Rattle.foreign_table.specs.Back.{BackRises, goes_back}
use Rattle.local_sweep.proofs.Filtered.{both, first, second}

abbrev Groups : Type 0
Groups = List (ℕ × List Amount)

less : (o : Ordering) → T (is_lt o) → o ≡ Less
less Less p = refl
less Equal p = absurd p
less Greater p = absurd p

unequal : (o : Ordering) → T (is_lt o) → is_eq o ≡ false
unequal Less p = refl
unequal Equal p = absurd p
unequal Greater p = absurd p

module _ {K X : Type 0} {R : K → K → Ordering} (o : IsTotalOrder R) where
  -- what is below a key is below all above it
  below_more : (x y : K) (es : List (K × X)) → R x y ≡ Less → T (below_all R y es) → T (below_all R x es)
  below_more x y [] p h = tt
  below_more x y (e ∷ es) p h = both _ _ (subst (λ r. T (is_lt r)) (sym (o.trans x y e.0 p (less _ (first _ _ h)))) tt) (below_more x y es p (second _ _ h))

  not_found : (x : K) (es : List (K × X)) → T (below_all R x es) → find R x es ≡ None
  not_found x [] h = refl
  not_found x (e ∷ es) h = ap (λ b. cond b (Some e.1) (find R x es)) (unequal (R x e.0) (first _ _ h)) ∙ not_found x es (second _ _ h)

-- ---- the first group

-- the first group is the thing's owner's, and begins with it
record Begins (e : Amount) (groups : Groups) : Type 0 where
  rest : List Amount
  others : Groups
  is : groups ≡ (owner_of e.0, e ∷ rest) ∷ others

begins : (e : Amount) (groups : Groups) → Begins e (join_owner e groups)
begins e [] = record { rest = []; others = []; is = refl }
begins e (g ∷ gs) =
    elim (eqb (owner_of e.0) g.0) as (λ b. eqb (owner_of e.0) g.0 ≡ b → Begins e (cond b ((g.0, e ∷ g.1) ∷ gs) ((owner_of e.0, e ∷ []) ∷ g ∷ gs))) [
      | true ↦ λ t. record { rest = g.1; others = gs; is = ap (λ b. (b, e ∷ g.1) ∷ gs) (sym (eqb-true (owner_of e.0) g.0 t)) }
      | false ↦ λ _. record { rest = []; others = g ∷ gs; is = refl }
    ] refl

-- ---- groups rise

owner_below : (a b : ℕ) (m n : Option ℕ) → ordering_then (nat_cmp a b) (option_cmp nat_cmp m n) ≡ Less → eqb a b ≡ false → nat_cmp a b ≡ Less
owner_below a b m n e d = by_order (nat_cmp a b) refl e
  where
    by_order : (o : Ordering) → nat_cmp a b ≡ o → ordering_then o (option_cmp nat_cmp m n) ≡ Less → nat_cmp a b ≡ Less
    by_order Less i h = i
    by_order Equal i h = absurd (let t : eqb a b ≡ true = grind (arith, nat_tests) in (let u : true ≡ false = sym t ∙ d in cc))
    by_order Greater i h = cc

join_rises : (e : Amount) (t : Amount) (rest : List Amount) (others : Groups) → thing_cmp e.0 t.0 ≡ Less → BackRises ((owner_of t.0, t ∷ rest) ∷ others) → BackRises (join_owner e ((owner_of t.0, t ∷ rest) ∷ others))
join_rises e t rest others l h =
    elim (eqb (owner_of e.0) (owner_of t.0)) as (λ b. eqb (owner_of e.0) (owner_of t.0) ≡ b → BackRises (cond b ((owner_of t.0, e ∷ t ∷ rest) ∷ others) ((owner_of e.0, e ∷ []) ∷ (owner_of t.0, t ∷ rest) ∷ others))) [
      | true ↦ λ _. record {
        owners = h.owners;
        things = both _ _ (both _ _ (both _ _ lower (below_more thing_total e.0 t.0 rest l (first _ _ (first _ _ h.things)))) (first _ _ h.things)) (second _ _ h.things);
      }
      | false ↦ λ d.
          let owner = owner_below (owner_of e.0) (owner_of t.0) (serial_of e.0) (serial_of t.0) l d in
          record {
            owners = both _ _ (both _ _ (subst (λ r. T (is_lt r)) (sym owner) tt) (below_more nat_cmp_total (owner_of e.0) (owner_of t.0) others owner (first _ _ h.owners))) h.owners;
            things = h.things;
          }
    ] refl
  where
    lower : T (is_lt (thing_cmp e.0 t.0))
    lower = subst (λ r. T (is_lt r)) (sym l) tt

-- the groups of rising things rise
pub groups_rise : (things : List Amount) → T (is_sorted thing_cmp things) → BackRises (by_owner things)
unfolding by_owner
groups_rise [] h = record { owners = tt; things = tt }
groups_rise (e ∷ []) h = record { owners = tt; things = tt }
groups_rise (e ∷ t ∷ ts) h =
    let after = groups_rise (t ∷ ts) (second _ _ h) in
    let group = begins t (by_owner ts) in
    subst (λ gs. BackRises (join_owner e gs)) (sym group.is) (join_rises e t group.rest group.others (less _ (first _ _ (first _ _ h))) (subst BackRises group.is after))

-- ---- what stands in the group of its owner

goes_joined : (e : Amount) (g : ℕ × List Amount) (gs : Groups) (x : Thing) → is_thing x e.0 ≡ false → T (is_sorted nat_cmp (join_owner e (g ∷ gs))) → goes_back (join_owner e (g ∷ gs)) x ≡ goes_back (g ∷ gs) x
goes_joined e g gs x n h =
    elim (eqb (owner_of e.0) g.0) as (λ b. T (is_sorted nat_cmp (joined b)) → goes_back (joined b) x ≡ goes_back (g ∷ gs) x) [
      | true ↦ λ _. elim (eq_by_cmp nat_cmp (owner_of x) g.0) as (λ b. among (cond b (Some (e ∷ g.1)) (find nat_cmp (owner_of x) gs)) ≡ among (cond b (Some g.1) (find nat_cmp (owner_of x) gs))) [
        | true ↦ ap (λ b. is_some (cond b (Some e.1) (find thing_cmp x g.1))) n
        | false ↦ refl
      ]
      | false ↦ λ s. elim (eq_by_cmp nat_cmp (owner_of x) (owner_of e.0)) as (λ b. eq_by_cmp nat_cmp (owner_of x) (owner_of e.0) ≡ b → among (cond b (Some (e ∷ [])) (find nat_cmp (owner_of x) (g ∷ gs))) ≡ goes_back (g ∷ gs) x) [
        | true ↦ λ t. ap (λ b. is_some (cond b (Some e.1) None)) n ∙ sym (ap among (ap (λ a. find nat_cmp a (g ∷ gs)) (same_owner t) ∙ not_found nat_cmp_total (owner_of e.0) (g ∷ gs) (first _ _ s)))
        | false ↦ λ _. refl
      ] refl
    ] h
  where
    joined : Bool → Groups
    joined b = cond b ((g.0, e ∷ g.1) ∷ gs) ((owner_of e.0, e ∷ []) ∷ g ∷ gs)

    among : Option (List Amount) → Bool
    among o = option_map_or (λ things. is_some (find thing_cmp x things)) o false

    same_owner : eq_by_cmp nat_cmp (owner_of x) (owner_of e.0) ≡ true → owner_of x ≡ owner_of e.0
    same_owner t = grind (arith, nat_tests)

-- a thing is in its owner's group where it is among the things
pub goes-by_owner : (things : List Amount) (x : Thing) → T (is_sorted thing_cmp things) → goes_back (by_owner things) x ≡ is_some (find thing_cmp x things)
unfolding by_owner
goes-by_owner [] x h = refl
goes-by_owner (e ∷ things) x h =
    elim (is_thing x e.0) as (λ b. is_thing x e.0 ≡ b → goes_back (join_owner e (by_owner things)) x ≡ is_some (cond b (Some e.1) (find thing_cmp x things))) [
      | true ↦ λ t. goes_first e (by_owner things) x (is_same x e.0 t)
      | false ↦ λ n. goes_after e things x n h ∙ goes-by_owner things x (second _ _ h)
    ] refl
  where
    goes_first : (e : Amount) (groups : Groups) (x : Thing) → x ≡ e.0 → goes_back (join_owner e groups) x ≡ true
    goes_first e groups x same =
        let group = begins e groups in
        ap (λ gs. goes_back gs x) group.is
        ∙ ap (λ b. option_map_or (λ ts. is_some (find thing_cmp x ts)) (cond b (Some (e ∷ group.rest)) (find nat_cmp (owner_of x) group.others)) false)
        (ap is_eq (ap (λ a. nat_cmp (owner_of x) a) (ap owner_of (sym same)) ∙ tied_itself nat_cmp_total (owner_of x)))
        ∙ ap (λ b. is_some (cond b (Some e.1) (find thing_cmp x group.rest))) (ap (is_thing x) (sym same) ∙ is_self x)

    goes_after : (e : Amount) (things : List Amount) (x : Thing) → is_thing x e.0 ≡ false → T (is_sorted thing_cmp (e ∷ things)) → goes_back (join_owner e (by_owner things)) x ≡ goes_back (by_owner things) x
    goes_after e [] x n h = elim (eq_by_cmp nat_cmp (owner_of x) (owner_of e.0)) as (λ b. option_map_or (λ ts. is_some (find thing_cmp x ts)) (cond b (Some (e ∷ [])) None) false ≡ false) [
      | true ↦ ap (λ b. is_some (cond b (Some e.1) None)) n
      | false ↦ refl
    ]
    goes_after e (t ∷ ts) x n h =
        let group = begins t (by_owner ts) in
        let rising = (groups_rise (e ∷ t ∷ ts) h).owners in
        subst (λ gs. T (is_sorted nat_cmp (join_owner e gs)) → goes_back (join_owner e gs) x ≡ goes_back gs x) (sym group.is) (goes_joined e (owner_of t.0, t ∷ group.rest) group.others x n) rising
