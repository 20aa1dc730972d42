use Rattle.std.proofs.Common.{◌-◌, List, Option, length, sym, ap, subst, ◌∙◌}
use Rattle.std.specs.Prelude.{vec_len, vec_capacity}
use Rattle.letter_kinds.specs.Holdings.{Row}
use Rattle.orca_names.specs.declared.names.ObjName.{ObjName}
use Rattle.orca_names.specs.declared.names.Value.{Value}
use Rattle.foreign_table.specs.declared.search.Entry.{Entry}
use Rattle.foreign_table.specs.Entry.{FollowFrom}
use Rattle.foreign_table.specs.Table.{AreRecalled, DoRise, Table, kept_in, seen_by}
use Rattle.foreign_table.proofs.table.ForeignTable.copy.Goals as goal

pub invariant_of-result : goal.invariant_of-result
invariant_of-result c =
    let held = c.in_ok-held.ensures.items_if_clones_equal (λ x y same. same) ∙ c.as_slice.ensures.value in
    let values = c.in_ok-values.ensures.items_if_clones_equal (λ x y same. same) ∙ c.as_slice-2.ensures.value in
    subst (λ (p : List Entry × List Value × (ObjName → Option Row)). DoRise p.0 × FollowFrom 0 p.0 (length p.1) × AreRecalled p.2 (kept_in p.1 p.0)) (λ j. (sym held j, sym values j, sym c.again.ensures j)) c.self.invariant

pub returns : goal.returns
returns c =
    let held = c.in_ok-held.ensures.items_if_clones_equal (λ x y same. same) ∙ c.as_slice.ensures.value in
    let values = c.in_ok-values.ensures.items_if_clones_equal (λ x y same. same) ∙ c.as_slice-2.ensures.value in
    let a = vec_capacity c.in_ok-held.held - vec_len c.in_ok-held.held in
    let b = vec_capacity c.in_ok-values.values - vec_len c.in_ok-values.values in
    (λ j. seen_by (c.again.ensures j) a b (kept_in (values j) (held j))) ∙ ap (λ (t : Table). record t { spare = a; spare_values = b }) c.self.view_is
