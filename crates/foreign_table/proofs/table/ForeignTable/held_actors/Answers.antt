use Rattle.std.proofs.Common.{IfOk, [], ◌≡◌, map, sym, ap, subst, ◌∙◌}
use Rattle.std.specs.FinMap as m
use Rattle.row_store.specs.Memory.{remembered}
use Rattle.foreign_table.specs.Entry.{pair_of}
use Rattle.foreign_table.specs.Table.{kept_in, on_actors, seen}
use Rattle.foreign_table.proofs.Entries.{all_entries, same_actors}
use Rattle.foreign_table.proofs.Mapped.{entries-mapped}
use Rattle.foreign_table.proofs.Seen.{actors_seen}
use Rattle.foreign_table.proofs.table.ForeignTable.held_actors.Goals as goal

pub returns : goal.returns
returns c =
    let s = c.self.inside in
    let es = s.held.items in
    let vs = s.values.items in
    let memory = remembered s.memory in
    let same = ap (λ es. on_actors (map (pair_of []) es)) c.as_slice.ensures.value ∙ same_actors [] vs es ∙ ap on_actors (sym (all_entries vs es c.self.invariant.0))
    ∙ sym (actors_seen memory (m.entries (kept_in vs es))) ∙ ap on_actors (sym (entries-mapped (seen memory) (kept_in vs es)))
    ∙ ap (λ t. on_actors (m.entries t.entries)) c.self.view_is in
    subst (λ found. IfOk c.actors_of.result (λ v. v.items ≡ found)) same c.actors_of.ensures
