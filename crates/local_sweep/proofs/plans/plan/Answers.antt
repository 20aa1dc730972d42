use Rattle.std.proofs.Common.{◌≡◌, List, sym, subst, ap, ◌∙◌}
use Rattle.std.specs.Prelude.{IfOk}
use Rattle.std.specs.List.{list_any}
use Rattle.std.specs.FinMap as m
use Rattle.orca_names.specs.Names.{is_thing}
use Rattle.orca_names.specs.declared.names.Thing.{Thing}
use Rattle.orca_names.specs.declared.names.Thing.TheVariants.{Obj}
use Rattle.orca_names.specs.declared.names.Value.{Value}
use Rattle.row_store.specs.Standing.{Stand}
use Rattle.reach_walk.specs.Marks.{TellMarks, marks_of}
use Rattle.object_heap.specs.Heap.{Heap}
use Rattle.foreign_table.specs.Span.{IsSpan}
use Rattle.foreign_table.specs.Table.{Table}
use Rattle.known_rows.specs.Known.{block_known, names_known, row_known, row_known-within}
use Rattle.known_rows.specs.Places.{place_in}
use Rattle.local_sweep.specs.Marked.{is_marked, is_named, is_reached}
use Rattle.local_sweep.specs.Plan.{object_named, plan_of}
use Rattle.local_sweep.proofs.Naming.{named_marked}
use Rattle.local_sweep.proofs.SamePlan.{plan_by_bits, same_plan}
use Rattle.local_sweep.proofs.plans.plan.Goals as goal
use Rattle.local_sweep.proofs.plans.plan.Goals.{else-are_few-via-then-are_few+else-lead_no_further, else-are_few-via-else-are_few}

pub lead_no_further-requires : goal.lead_no_further-requires
lead_no_further-requires g c = c.requires.stand

pub returns-then-lead_no_further-clause-plan : goal.returns-then-lead_no_further-clause-plan
returns-then-lead_no_further-clause-plan g c =
    let heap = c.args.heap.now in
    let foreign = c.args.foreign.now in
    let values = c.as_slice-values.result.now in
    let flat = c.lead_no_further.ensures.flat.0 c.if-lead_no_further.true in
    let same : (x : Thing) → is_named values x ≡ is_reached c.args.fields.now.values heap foreign x = λ x.
    named_marked (row_known heap foreign) (names_known heap foreign) values (row_known-within heap foreign) flat x
    ∙ ap (λ vs. list_any (is_thing x) (marks_of (row_known heap foreign) (names_known heap foreign) vs)) c.as_slice-values.ensures.value in
    let plans = same_plan (is_named values) (is_reached c.args.fields.now.values heap foreign) heap foreign
    (λ i serial e. same (Obj (object_named heap.owner serial))) (λ j x e. same x) in
    subst (λ p. IfOk c.plan_kept.result (λ plan. plan ≡ p)) plans c.plan_kept.ensures

pub mark_bits-requires : goal.mark_bits-requires
mark_bits-requires g c =
    let known = c.of-known.result in
    let here = g.W.RowWords.known c.else-are_few.words in
    let same : here ≡ g.W.RowWords.known c.args.words.now =
    elim c.else-are_few.branch [
      | else-are_few-via-then-are_few+else-lead_no_further w ↦ ap g.W.RowWords.known w.words-is ∙ w.lead_no_further.ensures.words.known
      | else-are_few-via-else-are_few w ↦ ap g.W.RowWords.known w.words-is
    ] in
    subst (λ h. Stand (row_known h known.rows.foreign.now) (block_known h known.rows.foreign.now) here) (sym c.of-known.ensures.heap)
    (subst (λ f. Stand (row_known c.args.heap.now f) (block_known c.args.heap.now f) here) (sym c.of-known.ensures.foreign)
    (subst (Stand (row_known c.args.heap.now c.args.foreign.now) (block_known c.args.heap.now c.args.foreign.now)) (sym same) c.requires.stand))

pub returns-clause-plan : goal.returns-clause-plan
returns-clause-plan g c =
    let known = c.of-known.result in
    let bits = c.in_ok-marks.marks in
    let heap = c.of-known.ensures.heap in
    let foreign = c.of-known.ensures.foreign in
    let Told : Heap → Table → List Value → Type 0 = λ h f values. TellMarks (place_in h f) bits (marks_of (row_known h f) (names_known h f) values) in
    let tells : Told c.args.heap.now c.args.foreign.now c.args.fields.now.values =
    subst (λ h. Told h c.args.foreign.now c.args.fields.now.values) heap
    (subst (λ f. Told known.rows.heap.now f c.args.fields.now.values) foreign
    (subst (Told known.rows.heap.now known.rows.foreign.now) c.as_slice-values.ensures.value c.in_ok-marks.ensures.marks)) in
    let span : IsSpan c.args.heap.now.owner (m.keys c.args.foreign.now.entries) known.first known.end =
    subst (λ h. IsSpan h.owner (m.keys c.args.foreign.now.entries) known.first known.end) heap
    (subst (λ f. IsSpan known.rows.heap.now.owner (m.keys f.entries) known.first known.end) foreign known.span) in
    let same = plan_by_bits bits (marks_of (row_known c.args.heap.now c.args.foreign.now) (names_known c.args.heap.now c.args.foreign.now) c.args.fields.now.values) c.args.heap.now c.args.foreign.now known.first known.end span c.requires.others tells in
    let planned : IfOk c.plan_kept-2.result (λ plan. plan ≡ plan_of (is_marked bits c.args.heap.now c.args.foreign.now) c.args.heap.now c.args.foreign.now) =
    subst (λ h. IfOk c.plan_kept-2.result (λ plan. plan ≡ plan_of (is_marked bits h c.args.foreign.now) h c.args.foreign.now)) heap
    (subst (λ f. IfOk c.plan_kept-2.result (λ plan. plan ≡ plan_of (is_marked bits known.rows.heap.now f) known.rows.heap.now f)) foreign c.plan_kept-2.ensures) in
    subst (λ p. IfOk c.plan_kept-2.result (λ plan. plan ≡ p)) same planned
