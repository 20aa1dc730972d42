-- The rows of an actor's own objects.
use Rattle.std.specs.Prelude.{ℕ, ◌≡◌, ◌==◌, Bool, true, false, cond, List, [], ◌∷◌, ◌++◌, Some, None, Contains, filter, map, not, option_map, refl}
use Rattle.std.proofs.Common.{suc, sym, subst, ap, ◌∙◌, eqb-true, arith}
use Rattle.std.specs.FinMap as m
use Rattle.std.specs.Ordering.{nat_cmp, eq_by_cmp}
use Rattle.std.specs.Cmp.{unsigned_tied}
use Rattle.orca_names.specs.declared.names.ObjName.{ObjName}
use Rattle.orca_names.specs.declared.names.Thing.TheVariants as names
use Rattle.orca_names.specs.declared.names.Value.{Value}
use Rattle.orca_names.specs.declared.names.Value.TheVariants.{Obj}
use Rattle.letter_kinds.specs.Holdings.{Row}
use Rattle.object_heap.specs.Heap.{Heap, own_row}
use Rattle.foreign_table.specs.Table.{Table, known_row}
use Rattle.known_rows.specs.Known.{row_known}
use Rattle.known_rows.specs.OnlyPlaced.{rows_have_places}
use Rattle.known_rows.specs.Places.{place_in}

abbrev pub object_named : ℕ → ℕ → ObjName
object_named owner serial = record { owner = owner; serial = serial }

-- the names of the own objects
abbrev pub own_names : Heap → List ObjName
own_names heap = map (λ e. object_named heap.owner e.0) (m.entries heap.rows)

-- the object is named among entries
abbrev IsNamed : ℕ → ℕ → List (ℕ × (Row × ℕ)) → Type 0
IsNamed owner serial es =
    Contains (map (λ e. object_named owner e.0) es) (object_named owner serial)

-- so it is where it is found
found_named : (owner serial : ℕ) (es : List (ℕ × (Row × ℕ))) (row : Row)
    → option_map (λ e. e.0) (m.find nat_cmp serial es) ≡ Some row
    → IsNamed owner serial es
found_named owner serial [] row h = cc
found_named owner serial (e ∷ es) row h =
    by (eq_by_cmp nat_cmp serial e.0) (found_named owner serial es row) refl h
  where
    by : (b : Bool)
        → (option_map (λ x. x.0) (m.find nat_cmp serial es) ≡ Some row → IsNamed owner serial es)
        → eq_by_cmp nat_cmp serial e.0 ≡ b
        → option_map (λ x. x.0) (cond b (Some e.1) (m.find nat_cmp serial es)) ≡ Some row
        → IsNamed owner serial (e ∷ es)
    by true behind same h =
        let serials : serial ≡ e.0 = eqb-true serial e.0 (sym (unsigned_tied serial e.0) ∙ same) in
        (0, omega arith, ap (object_named owner) (sym serials))
    by false behind other h =
        let later = behind h in
        (suc later.0, omega (arith, later.1), later.2)

-- an own object without a place has no row
pub own_have_places : (heap : Heap) (foreign : Table) (n : ObjName)
    → place_in heap foreign (names.Obj n) ≡ None → own_row heap n ≡ None
own_have_places heap foreign n none =
    by (n.owner == heap.owner) refl (rows_have_places heap foreign n none)
  where
    by : (b : Bool) → (n.owner == heap.owner) ≡ b → row_known heap foreign n ≡ None
        → own_row heap n ≡ None
    by true mine h = sym (ap (λ b. cond b (own_row heap n) (known_row foreign n)) mine) ∙ h
    by false other h =
        ap (λ b. cond b (option_map (λ e. e.0) (m.get heap.rows n.serial)) None) other

-- an own row is that of one of these
pub own_named : (heap : Heap) (n : ObjName) (row : Row) → own_row heap n ≡ Some row
    → Contains (own_names heap) n
own_named heap n row e = by (n.owner == heap.owner) refl e
  where
    by : (b : Bool) → (n.owner == heap.owner) ≡ b
        → cond b (option_map (λ e. e.0) (m.get heap.rows n.serial)) None ≡ Some row
        → Contains (own_names heap) n
    by true mine h =
        let found = ap (option_map (λ e. e.0)) (sym (m.get-entries heap.rows n.serial)) ∙ h in
        let named = found_named heap.owner n.serial (m.entries heap.rows) row found in
        let owner = eqb-true n.owner heap.owner mine in
        subst (Contains (own_names heap))
        (λ i. record { owner = sym owner i; serial = n.serial }) named
    by false other h = cc

-- an own object, as a value that marks begin with
abbrev pub object_root : ℕ → ℕ × (Row × ℕ) → Value
object_root owner e = Obj (object_named owner e.0)

-- the values of the fields, and the own objects that are counted
abbrev pub roots_in : List Value → Heap → List Value
roots_in values heap =
    values ++ map (object_root heap.owner) (filter (λ e. not (e.1.1 == 0)) (m.entries heap.rows))
