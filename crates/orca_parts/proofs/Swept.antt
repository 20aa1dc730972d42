-- What a sweep frees is what the swept holdings have no more.
use Rattle.std.proofs.Common.{◌≡◌, ◌≢◌, ℕ, Bool, true, false, cond, not, ◌&&◌, ◌||◌, List, [], ◌∷◌, map, Option, None, is_some, refl, sym, ap, ◌∙◌, eq-eqb, ne_eqb}
use Rattle.std.proofs.Math.Bool.{not-not}
use Rattle.std.specs.Prelude.{◌==◌, filter}
use Rattle.std.specs.List.{list_any}
use Rattle.std.specs.FinMap as m
use Rattle.orca_names.specs.declared.names.ObjName.{ObjName}
use Rattle.orca_names.specs.declared.names.Thing.{Thing}
use Rattle.orca_names.specs.declared.names.Thing.TheVariants.{Obj}
use Rattle.letter_kinds.specs.Counting.{sweep}
use Rattle.letter_kinds.specs.Holdings.{Row, has_own}
use Rattle.object_heap.specs.Free.{stays}
use Rattle.object_heap.specs.Heap.{Heap}
use Rattle.known_rows.specs.Holdings.{holdings_of}
use Rattle.row_blocks.specs.Blocks.{is_one_of}
use Rattle.local_sweep.specs.Plan.{free_of, is_freed, object_named}
use Rattle.local_sweep.proofs.Freed.{kept_rows}

-- among objects of one owner another of that owner is told by its serial alone
by_serial : (owner : ℕ) (es : List (ℕ × (Row × ℕ))) (n : ObjName) → (owner == n.owner) ≡ true
    → is_one_of (map (λ e. object_named owner e.0) es) n ≡ list_any (λ m. m.serial == n.serial) (map (λ e. object_named owner e.0) es)
by_serial owner [] n mine = refl
by_serial owner (e ∷ es) n mine = λ i. mine i && (e.0 == n.serial) || by_serial owner es n mine i

-- and none is another owner's
none_other : (owner : ℕ) (es : List (ℕ × (Row × ℕ))) (n : ObjName) → (owner == n.owner) ≡ false
    → is_one_of (map (λ e. object_named owner e.0) es) n ≡ false
none_other owner [] n other = refl
none_other owner (e ∷ es) n other = λ i. other i && (e.0 == n.serial) || none_other owner es n other i

-- an own object that is there is among those that a sweep frees just where what is swept has it no more
-- (`foreign` is a Table of foreign_table, which this crate does not use and so can't name)
pub freed_is_swept : (marked : Thing → Bool) (heap : Heap) (count : ℕ) (foreign : _) (n : ObjName) → n.owner ≡ heap.owner
    → has_own (holdings_of count heap foreign) (Obj n) ≡ true
    → is_one_of (free_of marked heap) n ≡ not (has_own (sweep marked heap.owner (holdings_of count heap foreign)) (Obj n))
unfolding has_own sweep
freed_is_swept marked heap count foreign n mine there =
    let gone = free_of marked heap in
    let kept = ap (λ rows. is_some (m.get rows n.serial)) (sym (kept_rows marked heap))
    ∙ ap is_some (m.get-retain_keys heap.rows (stays gone) n.serial (λ x e. ap (stays gone) (sym (m.nat_cmp-IsAntisymmetric n.serial x e))))
    ∙ left (stays gone n.serial) (m.get heap.rows n.serial) there in
    by_serial heap.owner (filter (is_freed marked heap.owner) (m.entries heap.rows)) n (eq-eqb heap.owner n.owner (sym mine))
    ∙ sym (ap not kept ∙ not-not (list_any (λ m. m.serial == n.serial) gone))
  where
    left : (b : Bool) (o : Option (Row × ℕ)) → is_some o ≡ true → is_some (cond b o None) ≡ b
    left true o some = some
    left false o some = refl

-- no other actor's object is
pub others_stay : (marked : Thing → Bool) (heap : Heap) (n : ObjName) → n.owner ≢ heap.owner → is_one_of (free_of marked heap) n ≡ false
others_stay marked heap n other =
    none_other heap.owner (filter (is_freed marked heap.owner) (m.entries heap.rows)) n (ne_eqb heap.owner n.owner (λ same. other (sym same)))
