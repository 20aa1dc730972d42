use Rattle.std.proofs.Common.{◌≡◌, List, sym, ap, subst, ◌∙◌}
use Rattle.std.specs.Prelude.{IfOk}
use Rattle.std.specs.FinMap as m
use Rattle.orca_names.specs.declared.names.Thing.{Thing}
use Rattle.orca_names.specs.declared.names.Value.{Value}
use Rattle.row_store.specs.Standing.{Stand}
use Rattle.reach_walk.specs.Marks.{TellMarks, marks_of}
use Rattle.object_heap.specs.Heap.{Heap, own_block, own_row}
use Rattle.foreign_table.specs.Span.{IsSpan}
use Rattle.foreign_table.specs.Table.{Table}
use Rattle.known_rows.specs.Places.{place_in}
use Rattle.local_sweep.specs.Plan.{plan_of}
use Rattle.local_sweep.proofs.SamePlan.{plan_by_bits}
use Rattle.root_trace.specs.Own.{own_names, roots_in}
use Rattle.root_trace.proofs.ByRoots.{marked_by_roots}
use Rattle.root_trace.proofs.plans.plan_roots.Goals as goal

pub mark_bits-requires : goal.mark_bits-requires
mark_bits-requires g c =
    subst (λ h. Stand (own_row h) (own_block h) (g.W.RowWords.known c.args.words.now)) (sym c.of.ensures.heap) c.requires.stand

pub returns-clause-plan : goal.returns-clause-plan
returns-clause-plan g c = λ cell fields rows.
    let known = c.of.result in
    let bits = c.in_ok-marks.marks in
    let heap = c.args.heap.now in
    let foreign = c.args.foreign.now in
    let values = c.args.fields.now.values in
    let marks : Heap → List Value → List Thing = λ h roots. marks_of (own_row h) (own_names h) roots in
    let Told : Heap → Table → List Value → Type 0 = λ h f roots. TellMarks (place_in h f) bits (marks h roots) in
    let tells : Told heap foreign (roots_in values heap) =
    subst (λ h. Told h foreign (roots_in values heap)) c.of.ensures.heap
    (subst (λ f. Told known.rows.heap.now f (roots_in values heap)) c.of.ensures.foreign
    (subst (Told known.rows.heap.now known.rows.foreign.now) (c.as_slice.ensures.value ∙ c.in_ok-roots.ensures) c.in_ok-marks.ensures.marks)) in
    let span : IsSpan heap.owner (m.keys foreign.entries) known.first known.end =
    subst (λ h. IsSpan h.owner (m.keys foreign.entries) known.first known.end) c.of.ensures.heap
    (subst (λ f. IsSpan known.rows.heap.now.owner (m.keys f.entries) known.first known.end) c.of.ensures.foreign known.span) in
    let same = plan_by_bits bits (marks heap (roots_in values heap)) heap foreign known.first known.end span c.requires.others tells in
    let machine = marked_by_roots cell values heap (ap (λ f. f.values) fields) rows in
    subst (λ p. IfOk c.plan_of_marks.result (λ plan. plan ≡ p)) (same ∙ (λ i. plan_of (λ x. machine x i) heap foreign)) c.plan_of_marks.ensures
