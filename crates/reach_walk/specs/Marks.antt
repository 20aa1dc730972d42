-- Marks and loads: what values reach through finitely many rows, as lists.
use Rattle.std.specs.Prelude.{ℕ, zero, suc, ◌≡◌, Bool, false, List, [], ◌∷◌, ◌++◌, Option, Some, None, Contains, length, map, slice_index_or}
use Rattle.std.specs.List.{flat_map, list_any}
use Rattle.orca_names.specs.Names.{is_thing, owner_of}
use Rattle.orca_names.specs.declared.names.ObjName.{ObjName}
use Rattle.orca_names.specs.declared.names.Thing.{Thing}
use Rattle.orca_names.specs.declared.names.Thing.TheVariants.{Actor}
use Rattle.orca_names.specs.declared.names.Value.{Value}
use Rattle.row_store.specs.Told.{Lying, thing_lies}
use Rattle.reach_walk.specs.Reach.{named_by, row_edges, thing_row}
pub use Rattle.thing_list.specs.Putting.{put_in_order}

-- every object that has a row is listed
abbrev pub Covers : List ObjName → (ObjName → Option (List Value)) → Type 0
Covers all rows = (n : ObjName) (row : List Value) → rows n ≡ Some row → Contains all n

-- things and their owners
abbrev pub with_owners : List Thing → List Thing
with_owners things = things ++ map (λ x. Actor (owner_of x)) things

-- things in their order, each once
abbrev pub in_order : List Thing → List Thing
in_order [] = []
in_order (x ∷ xs) = put_in_order x (in_order xs)

-- things, and what the rows of the objects among them name
abbrev pub with_next : (ObjName → Option (List Value)) → List Thing → List Thing
with_next rows things = in_order (things ++ flat_map (λ x. named_by (row_edges rows x)) things)

-- things, and what they lead to over at most so many rows
abbrev pub led_over : (ObjName → Option (List Value)) → ℕ → List Thing → List Thing
led_over rows zero things = things
led_over rows (suc n) things = led_over rows n (with_next rows things)

-- things, and what they lead to: no shortest way takes a row twice, so it takes at most as many as
-- are listed
unfoldable pub led_to : (ObjName → Option (List Value)) → List ObjName → List Thing → List Thing
led_to rows all things = led_over rows (length all) things

-- the marks of values: what they reach through rows, and the owners of what they reach
unfoldable pub marks_of : (ObjName → Option (List Value)) → List ObjName → List Value → List Thing
marks_of rows all roots = in_order (with_owners (led_to rows all (named_by roots)))

-- the load of a letter: each mark of its arguments, with its row
abbrev pub load_of : (ObjName → Option (List Value)) → List ObjName → List Value
    → List (Thing × Option (List Value))
load_of rows all args = map (λ x. (x, thing_row rows x)) (marks_of rows all args)

-- the same, with how the rows lie
abbrev pub load_lying : (ObjName → Option (List Value)) → (ObjName → Option ℕ) → List ObjName
    → List Value → List (Thing × Lying)
load_lying rows blocks all args = map (λ x. (x, thing_lies rows blocks x)) (marks_of rows all args)

-- the load of a letter with root-only tracing: what its arguments reach over no rows
abbrev pub load_roots : List Value → List (Thing × Option (List Value))
load_roots args = load_of (λ n. None) [] args

-- the bit of a place is on exactly where its thing is among the marks
abbrev pub TellMarks : (Thing → Option ℕ) → List Bool → List Thing → Type 0
TellMarks place bits marks =
    (x : Thing) (p : ℕ) → place x ≡ Some p → slice_index_or bits p false ≡ list_any (is_thing x) marks
