-- The rows that letters brought, as entries beside the own objects.
use Rattle.std.proofs.Common.{◌≡◌, ℕ, ◌==◌, cond, List, [], ◌∷◌, ◌++◌, map, Option, Some, None, refl, ap, ◌∙◌}
use Rattle.std.specs.Prelude.{option_map}
use Rattle.std.specs.List.{cons_option, filter_map, list_any}
use Rattle.std.specs.FinMap as m
use Rattle.orca_names.specs.Names.{is_thing}
use Rattle.orca_names.specs.declared.names.ObjName.{ObjName}
use Rattle.orca_names.specs.declared.names.Thing.{Thing}
use Rattle.orca_names.specs.declared.names.Thing.TheVariants.{Obj}
use Rattle.orca_names.specs.declared.names.Value.{Value}
use Rattle.orca_names.specs.declared.trace.Trace.TheVariants.{Deep, Roots}
use Rattle.reach_walk.specs.Marks.{load_of, marks_of}
use Rattle.letter_kinds.specs.Holdings.{Holdings, Row, entry_row, known_objects, object_name, row_of, with_made}
use Rattle.known_rows.specs.Holdings.{holdings_of}
use Rattle.known_rows.specs.Known.{row_known, row_known-row_of}
use Rattle.local_sweep.specs.Marked.{is_reached}
use Rattle.row_table.specs.Table.{Rows, as_held, bare_entry, uncounted}
use Rattle.foreign_table.proofs.Mapped.{entries-mapped, get-mapped}
use Rattle.root_trace.specs.Own.{roots_in}
use Rattle.machine_rules.specs.Cell as rules
use Rattle.machine_rules.specs.Cell.{listed_objects, row_by, row_by_roots}
use Rattle.machine_rules.specs.Collect.{is_in_use, start_of_marks}
use Rattle.machine_rules.specs.Go.{rows_from}
use Rattle.actor_cell.specs.declared.cell.Cell.{Cell}
use Rattle.actor_cell.specs.Cells.{as_cell}
use Rattle.actor_cell.specs.Goes.{having_made}
use Rattle.actor_cell.proofs.Marked.{marks_same}

pub brought_row : (known : Rows) (x : Thing) → entry_row (m.get (uncounted known) x) ≡ m.get known x
brought_row known x = ap entry_row (get-mapped (λ x. bare_entry) known x) ∙ same (m.get known x)
  where
    same : (o : Option Row) → entry_row (option_map bare_entry o) ≡ o
    same None = refl
    same (Some row) = refl

named_same : (es : List (Thing × Row)) → filter_map (λ (e : Thing × (ℕ × Option Row)). object_name e.0) (map (λ (e : Thing × Row). (e.0, bare_entry e.1)) es)
    ≡ filter_map (λ (e : Thing × Row). object_name e.0) es
named_same [] = refl
named_same (e ∷ es) = ap (cons_option (object_name e.0)) (named_same es)

module _ (me : ℕ) (c : rules.Cell) (h : Holdings) (own : h.rows ≡ c.holdings.rows) (brought : h.foreign ≡ uncounted c.known) where
  -- they are the rows that the cell has by root-only tracing
  pub rows_brought : row_of me h ≡ row_by_roots me c
  unfolding row_of row_by_roots
  rows_brought = λ i n. cond (n.owner == me) (option_map (λ e. e.0) (m.get (own i) n.serial)) ((ap (λ t. entry_row (m.get t (Obj n))) brought ∙ brought_row c.known (Obj n)) i)

  -- of the objects that are listed for it
  pub names_brought : known_objects me h ≡ listed_objects me c
  unfolding known_objects listed_objects
  names_brought = λ i. map (λ e. record { owner = me; serial = e.0 }) (m.entries (own i))
      ++ (ap (λ t. filter_map (λ e. object_name e.0) (m.entries t)) brought ∙ ap (filter_map (λ e. object_name e.0)) (entries-mapped (λ x. bare_entry) c.known) ∙ named_same (m.entries c.known)) i

module _ (c : Cell) where
  -- what is found in the tables is what the actor has
  pub found_deep : (n : ObjName) → row_known c.heap c.foreign n ≡ row_by Deep c.heap.owner (as_cell c) n
  found_deep n = row_known-row_of c.count c.heap c.foreign n

  pub found_roots : (n : ObjName) → row_known c.heap (as_held c.known) n ≡ row_by Roots c.heap.owner (as_cell c) n
  found_roots n =
      row_known-row_of 0 c.heap (as_held c.known) n
      ∙ ap (λ rows. rows n) (rows_brought c.heap.owner (as_cell c) (holdings_of 0 c.heap (as_held c.known)) refl refl)

  -- what a letter carries
  pub carried_is : (made : List Row) (args : List Value)
      → (let h = with_made made (holdings_of 0 c.heap (as_held c.known)) in load_of (row_of c.heap.owner h) (known_objects c.heap.owner h) args)
      ≡ rows_from Roots c.heap.owner (having_made made (as_cell c)) args
  carried_is made args =
      let h = with_made made (holdings_of 0 c.heap (as_held c.known)) in
      let kept = having_made made (as_cell c) in
      λ i. load_of (rows_brought c.heap.owner kept h refl refl i) (names_brought c.heap.owner kept h refl refl i) args

  starts : roots_in c.fields.values c.heap ≡ start_of_marks c.heap.owner (as_cell c)
  unfolding start_of_marks
  starts = refl

  -- which of these rows are in use
  pub in_use_is : (x : Thing) → is_reached (roots_in c.fields.values c.heap) c.heap (as_held c.known) x ≡ is_in_use c.heap.owner (as_cell c) x
  unfolding is_in_use
  in_use_is x =
      let h = holdings_of 0 c.heap (as_held c.known) in
      ap (list_any (is_thing x)) (marks_same 0 c.heap (as_held c.known) (roots_in c.fields.values c.heap)
      ∙ (λ i. marks_of (rows_brought c.heap.owner (as_cell c) h refl refl i) (names_brought c.heap.owner (as_cell c) h refl refl i) (starts i)))
