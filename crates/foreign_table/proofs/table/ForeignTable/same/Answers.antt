use Rattle.std.proofs.Common.{sym, ap, subst, ◌∙◌}
use Rattle.std.proofs.lemmas.Bool.{false≢true}
use Rattle.row_store.specs.Memory.{remembered}
use Rattle.foreign_table.specs.Table.{AllHere, IsSame, Table, kept_in}
use Rattle.foreign_table.proofs.Same.{known_by_kept}
use Rattle.foreign_table.proofs.Seen.{blocks_alike, same_kept_here, same_seen_here}
use Rattle.foreign_table.proofs.table.ForeignTable.same.Goals as goal

pub returns-then-same_entries-clause-same : goal.returns-then-same_entries-clause-same
returns-then-same_entries-clause-same c =
    let s = c.self.inside in
    let o = c.other.inside in
    let kept = kept_in s.values.items s.held.items in
    let others = kept_in o.values.items o.held.items in
    let here = subst AllHere (sym c.self.view_is) c.requires in
    let held = sym c.as_slice.ensures.value ∙ c.same_entries.ensures.0 c.if-same_entries.true ∙ c.as_slice-2.ensures.value in (
      λ t.
          let values = sym c.as_slice-then-same_entries.ensures.value ∙ c.same_values.ensures.0 t ∙ c.as_slice-then-same_entries-2.ensures.value in
          subst (λ (p : Table × Table). IsSame p.0 p.1) (λ j. (c.self.view_is j, c.other.view_is j))
          (same_seen_here (remembered s.memory) (remembered o.memory) 0 0 0 0 kept others here (λ j. kept_in (values j) (held j))),
      λ same.
          let inside = subst (λ (p : Table × Table). IsSame p.0 p.1) (λ j. (sym c.self.view_is j, sym c.other.view_is j)) same in
          let is = same_kept_here (remembered s.memory) (remembered o.memory) 0 0 0 0 kept others here inside in
          let known = known_by_kept s.values.items o.values.items s.held.items o.held.items c.self.invariant.0 c.other.invariant.0 c.self.invariant.1 c.other.invariant.1 is in
          c.same_values.ensures.1 (c.as_slice-then-same_entries.ensures.value ∙ known.1 ∙ sym c.as_slice-then-same_entries-2.ensures.value),
    )

pub returns-else-same_entries-clause-same : goal.returns-else-same_entries-clause-same
returns-else-same_entries-clause-same c =
    let s = c.self.inside in
    let o = c.other.inside in
    let kept = kept_in s.values.items s.held.items in
    let others = kept_in o.values.items o.held.items in
    let here = subst AllHere (sym c.self.view_is) c.requires in (
      λ t. absurd (false≢true (sym c.if-same_entries.false ∙ t)),
      λ same.
          let inside = subst (λ (p : Table × Table). IsSame p.0 p.1) (λ j. (sym c.self.view_is j, sym c.other.view_is j)) same in
          let is = same_kept_here (remembered s.memory) (remembered o.memory) 0 0 0 0 kept others here inside in
          let known = known_by_kept s.values.items o.values.items s.held.items o.held.items c.self.invariant.0 c.other.invariant.0 c.self.invariant.1 c.other.invariant.1 is in
          c.same_entries.ensures.1 (c.as_slice.ensures.value ∙ known.0 ∙ sym c.as_slice-2.ensures.value),
    )

pub returns-then-same_entries-clause-alike : goal.returns-then-same_entries-clause-alike
returns-then-same_entries-clause-alike c = λ there same.
    let s = c.self.inside in
    let o = c.other.inside in
    sym (ap (λ (t : Table). t.blocks) c.self.view_is)
    ∙ blocks_alike (remembered s.memory) (remembered o.memory) 0 0 0 0 (kept_in s.values.items s.held.items) (kept_in o.values.items o.held.items)
    (subst AllHere (sym c.self.view_is) c.requires) (subst AllHere (sym c.other.view_is) there)
    (ap (λ (t : Table). t.entries) c.self.view_is ∙ same ∙ sym (ap (λ (t : Table). t.entries) c.other.view_is))
    ∙ ap (λ (t : Table). t.blocks) c.other.view_is

pub returns-else-same_entries-clause-alike : goal.returns-else-same_entries-clause-alike
returns-else-same_entries-clause-alike c = λ there same.
    let s = c.self.inside in
    let o = c.other.inside in
    sym (ap (λ (t : Table). t.blocks) c.self.view_is)
    ∙ blocks_alike (remembered s.memory) (remembered o.memory) 0 0 0 0 (kept_in s.values.items s.held.items) (kept_in o.values.items o.held.items)
    (subst AllHere (sym c.self.view_is) c.requires) (subst AllHere (sym c.other.view_is) there)
    (ap (λ (t : Table). t.entries) c.self.view_is ∙ same ∙ sym (ap (λ (t : Table). t.entries) c.other.view_is))
    ∙ ap (λ (t : Table). t.blocks) c.other.view_is
