-- A load has each thing at most once, also with root-only tracing; so an Inc has the weight for each at most.
use Rattle.std.proofs.Common.{◌≡◌, ◌≢◌, ◌==◌, ℕ, zero, suc, ◌+◌, ◌*◌, ◌≤◌, None, List, [], ◌∷◌, Contains, refl, sym, ◌∙◌, arith, subst, ⊎_elim}
use Rattle.std.specs.List.Sorted.{IsStrictlySortedBy}
use Rattle.std.specs.Prelude.{if◌then◌else◌}
use Rattle.std.proofs.lemmas.List.Sums.{sum_by-cons}
use Rattle.std.proofs.lemmas.Map.Keys.{sorted_tail}
use Rattle.orca_names.proofs.ThingOrder.{cases_thing, is_eq_true, is_ne_false}
use Rattle.orca_names.specs.Names.{is_thing, owner_of, thing_cmp}
use Rattle.orca_names.specs.declared.names.Thing.{Thing}
use Rattle.orca_names.specs.declared.names.Value.{Value}
use Rattle.reach_walk.proofs.Elements.{Contains-head, Contains-later}
use Rattle.reach_walk.proofs.InOrder.{first_absent, in_order-sorted}
use Rattle.reach_walk.specs.Marks.{in_order, load_roots, with_owners}
use Rattle.letter_kinds.proofs.Filters.{sum_by-filter_le}
use Rattle.letter_kinds.proofs.Raising.{amount_le, times_in}
use Rattle.letter_kinds.specs.Counting.{Loaded, is_lacking, to_mint}
use Rattle.letter_kinds.specs.Holdings.{Holdings}
use Rattle.letter_kinds.specs.Sums.{amount_of, times_loaded}
use Rattle.count_laws.proofs.knowledge.Loads.{load_exact, load_from-exact}
use Rattle.machine_rules.specs.Go.{lacking_from, lacks, load_from, to_need}
use Rattle.orca_names.specs.declared.trace.Trace.{Trace}
use Rattle.orca_names.specs.declared.trace.Trace.TheVariants.{Deep, Roots}

-- ---- things in order stand once

abbrev same : Thing → Thing
same y = y

one_more : (x y : Thing) (ys : List Thing) → x ≡ y → times_in same x (y ∷ ys) ≡ 1 + times_in same x ys
one_more x y ys is = sum_by-cons (λ e. if is_thing x e then 1 else 0) y ys ∙ rw (is_eq_true x y is) refl

pub none_more : (x y : Thing) (ys : List Thing) → x ≢ y → times_in same x (y ∷ ys) ≡ times_in same x ys
none_more x y ys not = sum_by-cons (λ e. if is_thing x e then 1 else 0) y ys ∙ rw (is_ne_false x y not) (omega arith)

absent_none : (x : Thing) (ys : List Thing) → ¬ Contains ys x → times_in same x ys ≡ 0
absent_none x [] absent = refl
absent_none x (y ∷ ys) absent =
    none_more x y ys (λ is. absent (subst (Contains (y ∷ ys)) (sym is) (Contains-head y ys)))
    ∙ absent_none x ys (λ c. absent (Contains-later y ys x c))

pub sorted_once : (x : Thing) (ys : List Thing) → IsStrictlySortedBy thing_cmp ys → times_in same x ys ≤ 1
sorted_once x [] sorted = omega arith
sorted_once x (y ∷ ys) sorted = ⊎_elim
    (λ is. let h = one_more x y ys is in let z = absent_none x ys (λ c. first_absent y ys sorted (subst (Contains ys) is c)) in omega arith)
    (λ not. let h = none_more x y ys not in let z = sorted_once x ys (sorted_tail thing_cmp y ys sorted) in omega arith)
    (cases_thing x y)

-- ---- loads and what is minted

roots_once : (args : List Value) (x : Thing) → times_loaded x (load_roots args) ≤ 1
roots_once args x = (load_exact (λ n. None) [] args (λ n row e. cc)).once x

pub load_once : (trace : Trace) (me : ℕ) (h : Holdings) (args : List Value) (x : Thing) → times_loaded x (load_from trace me h args) ≤ 1
load_once Deep me h args x = (load_from-exact me h args).once x
load_once Roots me h args x = roots_once args x

times_all : (x : Thing) (es : List Loaded) → times_in (λ (e : Loaded). e.0) x es ≡ times_loaded x es
unfolding times_loaded
times_all x es = refl

once_weight : (w n k : ℕ) → k ≤ w * n → n ≤ 1 → k ≤ w
once_weight w n k h one = below n one h
  where
    below : (n : ℕ) → n ≤ 1 → k ≤ w * n → k ≤ w
    below zero one h = omega arith
    below (suc zero) one h = omega arith
    below (suc (suc n)) one h = absurd (omega arith)

pub minted_once : (trace : Trace) (w me b : ℕ) (h : Holdings) (args : List Value) (x : Thing) (lacked : List Loaded) → lacking_from trace me h args ≡ lacked
    → amount_of x (to_mint w b lacked) ≤ w
minted_once trace w me b h args x lacked is =
    let most : times_in (λ (e : Loaded). e.0) x (lacking_from trace me h args) ≤ times_in (λ (e : Loaded). e.0) x (load_from trace me h args)
    = sum_by-filter_le (λ e. if is_thing x e.0 then 1 else 0) (λ e. is_lacking me h e.0) (load_from trace me h args) in
    let one = load_once trace me h args x in
    let all = times_all x (load_from trace me h args) in
    let k = amount_le w (λ (e : Loaded). e.0) x (λ e. owner_of e.0 == b) lacked in
    once_weight w (times_in (λ (e : Loaded). e.0) x lacked) _ k (rw (← is) (omega arith))

pub needed_once : (w me : ℕ) (h : Holdings) (x y : Thing) → amount_of y (to_need w me h x) ≤ w
needed_once w me h x y =
    let k = amount_le w same y (lacks me h) (in_order (with_owners (x ∷ []))) in
    once_weight w _ _ k (sorted_once y _ (in_order-sorted (with_owners (x ∷ []))))
