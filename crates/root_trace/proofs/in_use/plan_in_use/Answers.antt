use Rattle.std.proofs.Common.{◌≡◌, List, sym, subst, ◌∙◌}
use Rattle.std.specs.Prelude.{IfOk}
use Rattle.std.specs.FinMap as m
use Rattle.orca_names.specs.declared.names.Thing.{Thing}
use Rattle.orca_names.specs.declared.names.Value.{Value}
use Rattle.row_store.specs.Standing.{Stand}
use Rattle.reach_walk.specs.Marks.{TellMarks, marks_of}
use Rattle.object_heap.specs.Heap.{Heap}
use Rattle.foreign_table.specs.Span.{IsSpan}
use Rattle.foreign_table.specs.Table.{Table}
use Rattle.known_rows.specs.Known.{block_known, names_known, row_known}
use Rattle.known_rows.specs.Places.{place_in}
use Rattle.local_sweep.proofs.SamePlan.{plan_by_bits}
use Rattle.root_trace.specs.Own.{roots_in}
use Rattle.root_trace.proofs.in_use.plan_in_use.Goals as goal

pub mark_bits-requires : goal.mark_bits-requires
mark_bits-requires g c =
    let known = c.of-rows.result.rows in
    let here = g.W.RowWords.known c.args.words.now in
    subst (λ h. Stand (row_known h known.foreign.now) (block_known h known.foreign.now) here) (sym c.of-rows.ensures.heap)
    (subst (λ f. Stand (row_known c.args.heap.now f) (block_known c.args.heap.now f) here) (sym c.of-rows.ensures.foreign) c.requires.stand)

pub returns-clause-plan : goal.returns-clause-plan
returns-clause-plan g c =
    let known = c.of-rows.result in
    let bits = c.in_ok-marks.marks in
    let heap = c.of-rows.ensures.heap in
    let brought = c.of-rows.ensures.foreign in
    let roots = roots_in c.args.fields.now.values c.args.heap.now in
    let marks : Heap → Table → List Value → List Thing = λ h f values. marks_of (row_known h f) (names_known h f) values in
    let Told : Heap → Table → List Value → Type 0 = λ h f values. TellMarks (place_in h f) bits (marks h f values) in
    let tells : Told c.args.heap.now c.args.brought.now roots =
    subst (λ h. Told h c.args.brought.now roots) heap
    (subst (λ f. Told known.rows.heap.now f roots) brought
    (subst (Told known.rows.heap.now known.rows.foreign.now) (c.as_slice.ensures.value ∙ c.in_ok-roots.ensures) c.in_ok-marks.ensures.marks)) in
    let span : IsSpan c.args.heap.now.owner (m.keys c.args.brought.now.entries) known.first known.end =
    subst (λ h. IsSpan h.owner (m.keys c.args.brought.now.entries) known.first known.end) heap
    (subst (λ f. IsSpan known.rows.heap.now.owner (m.keys f.entries) known.first known.end) brought known.span) in
    let same = plan_by_bits bits (marks c.args.heap.now c.args.brought.now roots) c.args.heap.now c.args.brought.now known.first known.end span c.requires.others tells in
    subst (λ p. IfOk c.plan_of_marks.result (λ plan. plan ≡ p)) same c.plan_of_marks.ensures
