-- The marks of a collection by roots are those of the machine.
use Rattle.std.proofs.Common.{◌≡◌, ℕ, ◌==◌, ◌++◌, Contains, cond, not, List, Option, None, map, sym, ap, subst, ◌∙◌}
use Rattle.std.specs.Prelude.{option_map}
use Rattle.std.specs.List.{filter, list_any}
use Rattle.std.specs.FinMap as m
use Rattle.std.proofs.lemmas.List.Elements.{Contains-append_left}
use Rattle.orca_names.specs.Names.{is_thing}
use Rattle.orca_names.specs.declared.names.ObjName.{ObjName}
use Rattle.orca_names.specs.declared.names.Thing.{Thing}
use Rattle.orca_names.specs.declared.names.Value.{Value}
use Rattle.reach_walk.specs.Marks.{Covers, marks_of}
use Rattle.reach_walk.proofs.MarkLaws.{marks-exact, marks-unique}
use Rattle.letter_kinds.specs.Holdings.{Row}
use Rattle.object_heap.specs.Heap.{Heap, own_row}
use Rattle.machine_rules.specs.Cell.{Cell, listed_objects, own_row_of}
use Rattle.machine_rules.specs.Collect.{is_marked_by_roots, start_of_marks}
use Rattle.root_trace.specs.Own.{object_named, object_root, own_named, own_names, roots_in}

-- which names are listed does not matter
same_marks : (rows : ObjName → Option (List Value)) (all more : List ObjName) (roots : List Value) → Covers all rows → Covers more rows → marks_of rows all roots ≡ marks_of rows more roots
same_marks rows all more roots covers covers_too = marks-unique rows more roots (marks_of rows all roots) covers_too (marks-exact rows all roots covers)

module _ (c : Cell) (values : List Value) (heap : Heap) (fields : c.fields.values ≡ values) (rows : c.holdings.rows ≡ heap.rows) where
  own_rows : own_row_of heap.owner c.holdings ≡ own_row heap
  unfolding own_row_of
  own_rows = ap (λ own n. cond (n.owner == heap.owner) (option_map (λ e. e.0) (m.get own n.serial)) None) rows

  roots : start_of_marks heap.owner c ≡ roots_in values heap
  unfolding start_of_marks
  roots = λ i. fields i ++ map (object_root heap.owner) (filter (λ e. not (e.1.1 == 0)) (m.entries (rows i)))

  covers : Covers (listed_objects heap.owner c) (own_row heap)
  unfolding listed_objects
  covers n row e =
      let object : ℕ × (Row × ℕ) → ObjName = λ x. object_named heap.owner x.0 in
      Contains-append_left _ _ n (subst (λ own. Contains (map object (m.entries own)) n) (sym rows) (own_named heap n row e))

  pub marked_by_roots : (x : Thing) → list_any (is_thing x) (marks_of (own_row heap) (own_names heap) (roots_in values heap)) ≡ is_marked_by_roots heap.owner c x
  unfolding is_marked_by_roots
  marked_by_roots x =
      ap (list_any (is_thing x)) (same_marks (own_row heap) (own_names heap) (listed_objects heap.owner c) (roots_in values heap) (own_named heap) covers)
      ∙ (λ i. list_any (is_thing x) (marks_of (sym own_rows i) (listed_objects heap.owner c) (sym roots i)))
