-- What passes among the first entries, one entry more.
use Rattle.std.proofs.Common.{◌≡◌, ℕ, ◌+◌, Bool, true, false, cond, not, ◌||◌, ◌==◌, List, [], ◌∷◌, ◌++◌, map, take, get_or, slice_get, Some, refl, sym, ap, ◌∙◌}
use Rattle.std.specs.List.{filter}
use Rattle.std.specs.Option.{option_map_or}
use Rattle.std.proofs.lemmas.List.{map-append}
use Rattle.std.proofs.lemmas.List.Elements.{filter_more}
use Rattle.std.proofs.lemmas.Option.{get_or_from_slice_get, slice_get_within}
use Rattle.orca_names.specs.declared.names.Thing.{Thing}
use Rattle.orca_names.specs.declared.names.Thing.TheVariants.{Obj}
use Rattle.letter_kinds.specs.Holdings.{Row}
use Rattle.object_heap.specs.Heap.{Heap}
use Rattle.foreign_table.specs.Table.{Table}
use Rattle.known_rows.specs.Places.{place_in}
use Rattle.local_sweep.specs.Marked.{is_marked}
use Rattle.local_sweep.specs.Plan.{is_freed, object_named}

one_more : {A B : Type 0} (f : A → B) (b : Bool) (e : A) → map f (cond b (e ∷ []) []) ≡ cond b (f e ∷ []) []
one_more f true e = refl
one_more f false e = refl

pub gathered : {A B : Type 0} (f : A → B) (p : A → Bool) (xs : List A) (i : ℕ) (e : A) → slice_get xs i ≡ Some e
    → map f (filter p (take (i + 1) xs)) ≡ map f (filter p (take i xs)) ++ cond (p e) (f e ∷ []) []
gathered f p xs i e is =
    ap (map f) (filter_more p xs i e (slice_get_within xs i e is)) ∙ map-append f (filter p (take i xs)) (cond (p (get_or xs i e)) (get_or xs i e ∷ []) [])
    ∙ ap (λ ys. map f (filter p (take i xs)) ++ ys) (one_more f (p (get_or xs i e)) (get_or xs i e))
    ∙ ap (λ x. map f (filter p (take i xs)) ++ cond (p x) (f x ∷ []) []) (get_or_from_slice_get xs i e e is)

-- ---- a mark by its place

module _ (marks : List Bool) (heap : Heap) (foreign : Table) where
  pub marked_at : (x : Thing) (p : ℕ) (b : Bool) → place_in heap foreign x ≡ Some p → slice_get marks p ≡ Some b → b ≡ is_marked marks heap foreign x
  marked_at x p b place on = sym (get_or_from_slice_get marks p b false on) ∙ ap (λ o. option_map_or (λ q. get_or marks q false) o false) (sym place)

pub freed_where : (marked : Thing → Bool) (owner : ℕ) (e : ℕ × (Row × ℕ)) (b : Bool) → b ≡ marked (Obj (object_named owner e.0)) → e.1.1 ≡ 0 → not b ≡ is_freed marked owner e
freed_where marked owner e b is none =
    let its = marked (Obj (object_named owner e.0)) in
    ap not is ∙ ap not (sym (or_false its)) ∙ ap (λ n. not (its || not (n == 0))) (sym none)
  where
    or_false : (a : Bool) → (a || false) ≡ a
    or_false true = refl
    or_false false = refl
