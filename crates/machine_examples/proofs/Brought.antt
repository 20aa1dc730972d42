-- The rows that letters brought, written out as a list of entries, beside a ledger.
use Rattle.std.proofs.Common.{◌≡◌, ℕ, ◌==◌, ◌&&◌, ◌||◌, Bool, true, false, not, if◌then◌else◌, List, [], ◌∷◌, ◌++◌, map, Option, Some, None, refl, ap, ◌∙◌}
use Rattle.std.specs.Prelude.{filter, option_map}
use Rattle.std.specs.List.{filter_map, list_any}
use Rattle.std.specs.Option.{option_map_or}
use Rattle.std.specs.FinMap as m
use Rattle.std.specs.FinMap.Entries.{where_key}
use Rattle.std.specs.Cmp.{nat_cmp_total}
use Rattle.std.specs.Ordering.{nat_cmp}
use Rattle.orca_names.proofs.ThingOrder.{thing_total, thing_exact}
use Rattle.orca_names.specs.Names.{is_thing, owner_of, thing_cmp}
use Rattle.orca_names.specs.declared.names.ObjName.{ObjName}
use Rattle.orca_names.specs.declared.names.Thing.{Thing}
use Rattle.orca_names.specs.declared.names.Thing.TheVariants.{Actor, Obj}
use Rattle.orca_names.specs.declared.names.Value.{Value}
use Rattle.orca_names.specs.declared.names.Value.TheVariants as values
use Rattle.reach_walk.specs.Marks.{in_order, marks_of, with_owners}
use Rattle.letter_kinds.specs.Counting.{Amount, Loaded}
use Rattle.letter_kinds.specs.Holdings.{Row, object_name}
use Rattle.machine_examples.proofs.Ledgers.{Ledger, entries-in_order, held_in-told, held_told, in_key_order, insert-put, own_entry, retain-where, told}
use Rattle.machine_rules.specs.Cell.{Cell, listed_objects, own_row_of, row_by_roots}
use Rattle.machine_rules.specs.Collect.{is_in_use, is_marked_by_roots, start_of_marks, without_unused}
use Rattle.machine_rules.specs.Go.{lacks, needs, to_need}
use Rattle.orca_names.specs.declared.trace.Trace.TheVariants.{Roots}
use Rattle.machine_rules.specs.Take.{learn}

-- objects of others, with their rows
abbrev pub Brought : Type 0
Brought = List (Thing × Row)

-- as a map
abbrev pub brought_map : Brought → m.FinMap thing_cmp Row
brought_map known = m.from_entries known

-- the cell with the holdings of the ledger and these rows
abbrev pub cell_with : Cell → Ledger → Brought → Cell
cell_with c l known = record c { holdings = told l; known = brought_map known }

-- ---- take

-- with these rows more
abbrev pub learn_told : ℕ → List Loaded → Brought → Brought
learn_told me [] known = known
learn_told me (e ∷ rows) known = learn_told me rows (option_map_or (λ row. if owner_of e.0 == me then known else m.put thing_cmp e.0 row known) e.1 known)

pub learn-told : (me : ℕ) (rows : List Loaded) (known : Brought) → learn me rows (brought_map known) ≡ brought_map (learn_told me rows known)
unfolding learn
learn-told me [] known = refl
learn-told me (e ∷ rows) known =
    ap (learn me rows) (by_row e.1) ∙ learn-told me rows (option_map_or (λ row. if owner_of e.0 == me then known else m.put thing_cmp e.0 row known) e.1 known)
  where
    by_owner : (row : Row) (b : Bool) → (if b then brought_map known else m.insert (brought_map known) e.0 row) ≡ brought_map (if b then known else m.put thing_cmp e.0 row known)
    by_owner row true = refl
    by_owner row false = insert-put thing_total thing_exact known e.0 row

    by_row : (row : Option Row) → option_map_or (λ row. if owner_of e.0 == me then brought_map known else m.insert (brought_map known) e.0 row) row (brought_map known)
        ≡ brought_map (option_map_or (λ row. if owner_of e.0 == me then known else m.put thing_cmp e.0 row known) row known)
    by_row None = refl
    by_row (Some row) = by_owner row (owner_of e.0 == me)

-- ---- the rows that it has

abbrev pub row_brought : ℕ → Ledger → Brought → ObjName → Option Row
row_brought me l known n = if n.owner == me then option_map (λ e. e.0) (own_entry l n.serial) else m.find thing_cmp (Obj n) known

pub row_brought-told : (me : ℕ) (c : Cell) (l : Ledger) (known : Brought) (n : ObjName) → row_by_roots me (cell_with c l known) n ≡ row_brought me l known n
unfolding row_by_roots
row_brought-told me c l known n i =
    if n.owner == me then option_map (λ e. e.0) (m.get-from_entries nat_cmp_total l.rows n.serial i) else m.get-from_entries thing_total known (Obj n) i

-- the row of an own object
abbrev pub own_row_told : ℕ → Ledger → ObjName → Option Row
own_row_told me l n = if n.owner == me then option_map (λ e. e.0) (own_entry l n.serial) else None

pub own_row-told : (me : ℕ) (l : Ledger) (n : ObjName) → own_row_of me (told l) n ≡ own_row_told me l n
unfolding own_row_of
own_row-told me l n i = if n.owner == me then option_map (λ e. e.0) (m.get-from_entries nat_cmp_total l.rows n.serial i) else None

-- the objects of which there may be a row
abbrev pub listed_told : ℕ → Ledger → Brought → List ObjName
listed_told me l known =
    map (λ e. record { owner = me; serial = e.0 }) (in_key_order nat_cmp l.rows) ++ filter_map (λ e. object_name e.0) (in_key_order thing_cmp known)

pub listed-told : (me : ℕ) (c : Cell) (l : Ledger) (known : Brought) → listed_objects me (cell_with c l known) ≡ listed_told me l known
unfolding listed_objects
listed-told me c l known i =
    map (λ e. record { owner = me; serial = e.0 }) (entries-in_order nat_cmp_total l.rows i) ++ filter_map (λ e. object_name e.0) (entries-in_order thing_total known i)

-- ---- what a turn gets

abbrev pub lacks_told : ℕ → Ledger → Thing → Bool
lacks_told me l x = not (owner_of x == me) && (held_told l x == 0)

pub lacks-told : (me : ℕ) (l : Ledger) (x : Thing) → lacks me (told l) x ≡ lacks_told me l x
lacks-told me l x i = not (owner_of x == me) && (held_in-told l x i == 0)

abbrev pub needs_told : ℕ → Ledger → Thing → Bool
needs_told me l x = lacks_told me l x || lacks_told me l (Actor (owner_of x))

pub needs-told : (me : ℕ) (l : Ledger) (x : Thing) → needs me (told l) x ≡ needs_told me l x
needs-told me l x i = lacks-told me l x i || lacks-told me l (Actor (owner_of x)) i

abbrev pub need_told : ℕ → ℕ → Ledger → Thing → List Amount
need_told weight me l x = map (λ y. (y, weight)) (filter (lacks_told me l) (in_order (with_owners (x ∷ []))))

pub need-told : (weight me : ℕ) (l : Ledger) (x : Thing) → to_need weight me (told l) x ≡ need_told weight me l x
need-told weight me l x i = map (λ y. (y, weight)) (filter (λ y. lacks-told me l y i) (in_order (with_owners (x ∷ []))))

-- ---- collect

-- the fields, and the own objects that are counted
abbrev pub starts_told : ℕ → Cell → Ledger → List Value
starts_told me c l = c.fields.values ++ map (λ e. values.Obj (record { owner = me; serial = e.0 })) (filter (λ e. not (e.1.1 == 0)) (in_key_order nat_cmp l.rows))

starts-told : (me : ℕ) (c : Cell) (l : Ledger) (known : Brought) → start_of_marks me (cell_with c l known) ≡ starts_told me c l
unfolding start_of_marks
starts-told me c l known i =
    c.fields.values ++ map (λ e. values.Obj (record { owner = me; serial = e.0 })) (filter (λ e. not (e.1.1 == 0)) (entries-in_order nat_cmp_total l.rows i))

-- what they lead to through own rows
abbrev pub marked_by_roots_told : ℕ → Cell → Ledger → Brought → Thing → Bool
marked_by_roots_told me c l known x = list_any (is_thing x) (marks_of (own_row_told me l) (listed_told me l known) (starts_told me c l))

pub marked_by_roots-told : (me : ℕ) (c : Cell) (l : Ledger) (known : Brought) → is_marked_by_roots me (cell_with c l known) ≡ marked_by_roots_told me c l known
unfolding is_marked_by_roots
marked_by_roots-told me c l known i =
    λ x. list_any (is_thing x) (marks_of (λ n. own_row-told me l n i) (listed-told me c l known i) (starts-told me c l known i))

-- what they lead to through all rows that it has
abbrev pub in_use_told : ℕ → Cell → Ledger → Brought → Thing → Bool
in_use_told me c l known x = list_any (is_thing x) (marks_of (row_brought me l known) (listed_told me l known) (starts_told me c l))

in_use-told : (me : ℕ) (c : Cell) (l : Ledger) (known : Brought) → is_in_use me (cell_with c l known) ≡ in_use_told me c l known
unfolding is_in_use
in_use-told me c l known i =
    λ x. list_any (is_thing x) (marks_of (λ n. row_brought-told me c l known n i) (listed-told me c l known i) (starts-told me c l known i))

-- the rows that stay
abbrev pub used_told : ℕ → Cell → Ledger → Brought → Brought
used_told me c l known = where_key thing_cmp (in_use_told me c l known) known

pub used-told : (me : ℕ) (c : Cell) (l : Ledger) (known : Brought) → without_unused Roots me (cell_with c l known) ≡ cell_with c l (used_told me c l known)
used-told me c l known =
    ap (λ rows. record (cell_with c l known) { known = rows })
    (ap (m.retain_keys (m.from_entries known)) (in_use-told me c l known) ∙ retain-where thing_total thing_exact known (in_use_told me c l known))
