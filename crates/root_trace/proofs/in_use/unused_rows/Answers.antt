use Rattle.std.proofs.Common.{◌≡◌, Bool, [], map, not, sym, ap, ◌∙◌}
use Rattle.std.specs.FinMap as m
use Rattle.std.specs.List.{filter}
use Rattle.orca_names.specs.declared.names.Thing.{Thing}
use Rattle.letter_kinds.specs.Counting.{by_owner, given_back}
use Rattle.object_heap.specs.Heap.{Heap}
use Rattle.foreign_table.specs.Table.{Table}
use Rattle.local_sweep.specs.Marked.{is_reached}
use Rattle.local_sweep.specs.Plan.{back_of}
use Rattle.root_trace.specs.Own.{roots_in}
use Rattle.row_table.specs.Table.{as_held}
use Rattle.row_table.proofs.Mapped.{held_none, none_listed}
use Rattle.root_trace.proofs.in_use.unused_rows.Goals as goal

none_back : (marked : Thing → Bool) (heap : Heap) (t : Table) → t.entries ≡ m.empty → back_of marked heap t ≡ []
unfolding given_back by_owner
none_back marked heap t none = ap (λ es. by_owner (map (λ e. (e.0, e.1.0)) (filter (λ e. not (marked e.0)) es))) (none_listed t.entries none)

pub returns-in-None-clause-unused : goal.returns-in-None-clause-unused
returns-in-None-clause-unused g c =
    let known = c.args.known.now in
    let in_use : Thing → Bool = is_reached (roots_in c.args.fields.now.values c.args.heap.now) c.args.heap.now (as_held known) in
    c.new.ensures ∙ sym (none_back in_use c.args.heap.now (as_held known) (held_none known c.in-None.ensures))
