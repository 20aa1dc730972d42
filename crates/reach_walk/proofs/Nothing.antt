-- What values reach that name nothing.
use Rattle.std.proofs.Common.{◌≡◌, ℕ, zero, suc, ◌<◌, List, [], ◌∷◌, length, get_or, map, true, Option, None, Some, refl, sym, ap, ◌∙◌, arith}
use Rattle.std.specs.Prelude.{is_some}
use Rattle.std.specs.List.{cons_option}
use Rattle.orca_names.specs.declared.names.ObjName.{ObjName}
use Rattle.orca_names.specs.declared.names.Thing.{Thing}
use Rattle.orca_names.specs.declared.names.Value.{Value}
use Rattle.reach_walk.specs.Marks.{in_order, led_over, led_to, load_lying, marks_of, with_owners}
use Rattle.reach_walk.specs.Reach.{named_by, thing_of}
use Rattle.row_store.specs.Told.{thing_lies}

over_nothing : (rows : ObjName → Option (List Value)) (n : ℕ) → led_over rows n [] ≡ []
over_nothing rows zero = refl
over_nothing rows (suc n) = over_nothing rows n

pub marks_of-nothing : (rows : ObjName → Option (List Value)) (all : List ObjName)
    (roots : List Value) → named_by roots ≡ [] → marks_of rows all roots ≡ []
unfolding marks_of led_to
marks_of-nothing rows all roots none =
    let led : led_over rows (length all) (named_by roots) ≡ [] =
    ap (led_over rows (length all)) none ∙ over_nothing rows (length all) in
    ap (λ things. in_order (with_owners things)) led

-- their load has nothing
pub load_lying-nothing : (rows : ObjName → Option (List Value)) (blocks : ObjName → Option ℕ)
    (all : List ObjName) (args : List Value) → named_by args ≡ [] → load_lying rows blocks all args ≡ []
load_lying-nothing rows blocks all args none =
    ap (map (λ x. (x, thing_lies rows blocks x))) (marks_of-nothing rows all args none)

-- ---- a value that names something

rest_empty : (o : Option Thing) (ts : List Thing) → cons_option o ts ≡ [] → ts ≡ []
rest_empty None ts e = e
rest_empty (Some t) ts e = cc

first_none : (o : Option Thing) (ts : List Thing) → is_some o ≡ true → cons_option o ts ≡ [] → ⊥
first_none None ts some e = cc
first_none (Some t) ts some e = cc

pub names_something : (values : List Value) (i : ℕ) (v : Value) → i < length values
    → v ≡ get_or values i v → is_some (thing_of v) ≡ true → named_by values ≡ [] → ⊥
names_something [] i v inside at some none = absurd (omega arith)
names_something (w ∷ ws) zero v inside at some none =
    first_none (thing_of w) (named_by ws) (sym (ap (λ u. is_some (thing_of u)) at) ∙ some) none
names_something (w ∷ ws) (suc i) v inside at some none =
    names_something ws i v (omega arith) at some (rest_empty (thing_of w) (named_by ws) none)
