-- The own objects that a sweep frees.
use Rattle.std.proofs.Common.{◌≡◌, ℕ, ◌<◌, Bool, true, false, cond, not, ◌||◌, eqb, List, [], ◌∷◌, length, get_or, map, Option, Some, None, refl, sym, ap, subst, ◌∙◌, arith}
use Rattle.std.specs.Prelude.{T, ◌==◌}
use Rattle.std.specs.List.{filter, list_any}
use Rattle.std.specs.Ordering.{nat_cmp, eq_by_cmp, is_lt}
use Rattle.std.specs.declared.cmp.Ordering.TheVariants.{Less, Equal}
use Rattle.std.specs.Cmp.{nat_cmp_total}
use Rattle.std.specs.FinMap as m
use Rattle.std.specs.FinMap.{nat_cmp-IsAntisymmetric}
use Rattle.std.specs.FinMap.Entries.{find, below_all, is_sorted}
use Rattle.std.proofs.lemmas.Bool.{eq-eqb}
use Rattle.std.proofs.lemmas.Bool.Decides.{nat_tests}
use Rattle.std.proofs.lemmas.List.{get_or-map, length-map}
use Rattle.plain_list.proofs.Rising.{rises}
use Rattle.orca_names.specs.declared.names.ObjName.{ObjName}
use Rattle.orca_names.specs.declared.names.Thing.{Thing}
use Rattle.orca_names.specs.declared.names.Thing.TheVariants.{Obj}
use Rattle.letter_kinds.specs.Holdings.{Row, row_count}
use Rattle.object_heap.specs.Free.{SerialsRise, stays}
use Rattle.object_heap.specs.Heap.{Heap}
use Rattle.local_sweep.specs.Plan.{free_of, is_freed, object_named}
use Rattle.local_sweep.proofs.Filtered.{first, second, is_sorted-filter}

abbrev Own : Type 0
Own = ℕ × (Row × ℕ)

less : (a b : ℕ) → nat_cmp a b ≡ Less → a < b
less a b e = grind (arith, nat_tests)

-- names of entries whose serials rise
names_rise : (owner : ℕ) (es : List Own) → T (is_sorted nat_cmp es) → SerialsRise (map (λ e. object_named owner e.0) es)
names_rise owner [] h i j d l n = absurd (omega arith)
names_rise owner (e ∷ es) h i j d l n =
    let name : Own → ObjName = λ x. object_named owner x.0 in
    let within : j < length (e ∷ es) = omega (arith, length-map (e ∷ es) name) in
    let low : (get_or (map name (e ∷ es)) i d).serial ≡ (get_or (e ∷ es) i e).0 = ap (λ x. x.serial) (get_or-map name (e ∷ es) i e d (omega arith)) in
    let high : (get_or (map name (e ∷ es)) j d).serial ≡ (get_or (e ∷ es) j e).0 = ap (λ x. x.serial) (get_or-map name (e ∷ es) j e d within) in
    let rise = less (get_or (e ∷ es) i e).0 (get_or (e ∷ es) j e).0 (rises nat_cmp_total (e ∷ es) h i j e l within) in
    omega arith

pub freed_rise : (marked : Thing → Bool) (heap : Heap) → SerialsRise (free_of marked heap)
freed_rise marked heap = names_rise heap.owner (filter (is_freed marked heap.owner) (m.entries heap.rows))
    (is_sorted-filter nat_cmp (is_freed marked heap.owner) (m.entries heap.rows) (m.entries_sorted heap.rows))

-- ---- which serials are among them

abbrev names_of : (ℕ × (Row × ℕ) → Bool) → ℕ → List Own → List ObjName
names_of p owner es = map (λ e. object_named owner e.0) (filter p es)

abbrev is_named : ℕ → List ObjName → Bool
is_named q names = list_any (λ n. eqb n.serial q) names

apart : (q k : ℕ) → T (is_lt (nat_cmp q k)) → eqb k q ≡ false
apart q k l = grind (arith, nat_tests)

none_below : (p : Own → Bool) (owner q : ℕ) (es : List Own) → T (below_all nat_cmp q es) → is_named q (names_of p owner es) ≡ false
none_below p owner q [] h = refl
none_below p owner q (e ∷ es) h =
    let rest = none_below p owner q es (second _ _ h) in
    elim (p e) as (λ b. list_any (λ n. eqb n.serial q) (map (λ (x : Own). object_named owner x.0) (cond b (e ∷ filter p es) (filter p es))) ≡ false) [
      | true ↦ ap (λ b. b || is_named q (names_of p owner es)) (apart q e.0 (first _ _ h)) ∙ rest
      | false ↦ rest
    ]

same_key : (q k : ℕ) → eq_by_cmp nat_cmp q k ≡ true → k ≡ q
same_key q k e = grind (arith, nat_tests)

other_key : (q k : ℕ) → eq_by_cmp nat_cmp q k ≡ false → eqb k q ≡ false
other_key q k e = grind (arith, nat_tests)

abbrev names_if : (ℕ × (Row × ℕ) → Bool) → ℕ → Own → List Own → Bool → List ObjName
names_if p owner e es b = map (λ x. object_named owner x.0) (cond b (e ∷ filter p es) (filter p es))

named_here : (p : Own → Bool) (owner q : ℕ) (v : Row × ℕ) (e : Own) (es : List Own) → e ≡ (q, v) → T (below_all nat_cmp e.0 es) → is_named q (names_if p owner e es (p e)) ≡ p (q, v)
named_here p owner q v e es here h =
    let key : e.0 ≡ q = ap (λ x. x.0) here in
    let none = subst (λ k. is_named k (names_of p owner es) ≡ false) key (none_below p owner e.0 es h) in
    elim (p e) as (λ b. p e ≡ b → is_named q (names_if p owner e es b) ≡ p (q, v)) [
      | true ↦ λ yes. ap (λ b. b || is_named q (names_of p owner es)) (eq-eqb e.0 q key) ∙ sym yes ∙ ap p here
      | false ↦ λ no. none ∙ sym no ∙ ap p here
    ] refl

named_later : (p : Own → Bool) (owner q : ℕ) (e : Own) (es : List Own) (b : Bool) → eq_by_cmp nat_cmp q e.0 ≡ false → is_named q (names_if p owner e es b) ≡ is_named q (names_of p owner es)
named_later p owner q e es true t = ap (λ b. b || is_named q (names_of p owner es)) (other_key q e.0 t)
named_later p owner q e es false t = refl

-- an entry is named where it passes
named : (p : Own → Bool) (owner q : ℕ) (v : Row × ℕ) (es : List Own) → T (is_sorted nat_cmp es) → find nat_cmp q es ≡ Some v → is_named q (names_of p owner es) ≡ p (q, v)
named p owner q v [] h f = cc
named p owner q v (e ∷ es) h f =
    elim (eq_by_cmp nat_cmp q e.0) as (λ b. eq_by_cmp nat_cmp q e.0 ≡ b → cond b (Some e.1) (find nat_cmp q es) ≡ Some v → is_named q (names_if p owner e es (p e)) ≡ p (q, v)) [
      | true ↦ λ t g. let value : e.1 ≡ v = cc in named_here p owner q v e es (λ i. (same_key q e.0 t i, value i)) (first _ _ h)
      | false ↦ λ t g. named_later p owner q e es (p e) t ∙ named p owner q v es (second _ _ h) g
    ] refl f

-- ---- what stays

abbrev keeps : (Thing → Bool) → Heap → ℕ → Bool
keeps marked heap serial = marked (Obj (object_named heap.owner serial)) || not (row_count (m.get heap.rows serial) == 0)

not_not : (b : Bool) → not (not b) ≡ b
not_not true = refl
not_not false = refl

kept_at : (marked : Thing → Bool) (heap : Heap) (q : ℕ) (o : Option (Row × ℕ)) → m.get heap.rows q ≡ o → cond (stays (free_of marked heap) q) o None ≡ cond (keeps marked heap q) o None
kept_at marked heap q None g = none (stays (free_of marked heap) q) ∙ sym (none (keeps marked heap q))
  where
    none : (b : Bool) → cond {A = Option (Row × ℕ)} b None None ≡ None
    none true = refl
    none false = refl
kept_at marked heap q (Some v) g =
    let named_is = named (is_freed marked heap.owner) heap.owner q v (m.entries heap.rows) (m.entries_sorted heap.rows) (sym (m.get-entries heap.rows q) ∙ g) in
    ap (λ b. cond (not b) (Some v) None) named_is ∙ ap (λ b. cond b (Some v) None) (not_not (marked (Obj (object_named heap.owner q)) || not (v.1 == 0)))
    ∙ ap (λ o. cond (marked (Obj (object_named heap.owner q)) || not (row_count o == 0)) (Some v) None) (sym g)

-- the objects that stay are those that a sweep keeps
pub kept_rows : (marked : Thing → Bool) (heap : Heap) → m.retain_keys heap.rows (stays (free_of marked heap)) ≡ m.retain_keys heap.rows (keeps marked heap)
kept_rows marked heap =
    let alike : (p : ℕ → Bool) (q x : ℕ) → nat_cmp q x ≡ Equal → p x ≡ p q = λ p q x e. ap p (sym (nat_cmp-IsAntisymmetric q x e)) in
    m.same_map nat_cmp_total nat_cmp-IsAntisymmetric _ _ (λ q.
    m.get-retain_keys heap.rows (stays (free_of marked heap)) q (alike (stays (free_of marked heap)) q)
    ∙ kept_at marked heap q (m.get heap.rows q) refl ∙ sym (m.get-retain_keys heap.rows (keeps marked heap) q (alike (keeps marked heap) q)))
