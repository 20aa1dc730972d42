use Rattle.std.proofs.Common.{sym, ap, subst, ◌∙◌}
use Rattle.object_heap.specs.Free.{SerialsRise, freed}
use Rattle.foreign_table.specs.Back.{BackRises, given_up}
use Rattle.letter_kinds.specs.Counting.{sweep}
use Rattle.known_rows.specs.Holdings.{holdings_of}
use Rattle.local_sweep.proofs.Freed.{freed_rise, kept_rows}
use Rattle.local_sweep.proofs.GivenBack.{back_rises, kept_entries}
use Rattle.local_sweep.proofs.sweep.apply.Goals as goal

pub free-requires : goal.free-requires
free-requires c =
    let is = c.as_slice.ensures ∙ ap (λ plan. plan.free) c.requires.1 in
    subst SerialsRise (sym is) (freed_rise c.requires.0 c.args.heap.now)

pub give_back-requires : goal.give_back-requires
give_back-requires c =
    let is = c.as_slice-2.ensures ∙ ap (λ plan. plan.back) c.requires.1 in
    subst BackRises (sym is) (back_rises c.requires.0 (holdings_of 0 c.args.heap.now c.args.foreign.now))

pub returns-clause-swept : goal.returns-clause-swept
unfolding sweep
returns-clause-swept c = λ marked count is.
    let heap = c.args.heap.now in
    let foreign = c.args.foreign.now in
    let free = c.as_slice.ensures ∙ ap (λ plan. plan.free) is in
    let back = c.as_slice-2.ensures ∙ ap (λ plan. plan.back) is in
    (λ j. holdings_of count (c.free.ensures j) (c.give_back.ensures j))
    ∙ (λ j. holdings_of count (freed (free j) heap) (given_up (back j) foreign))
    ∙ (λ j. record { count = count; rows = kept_rows marked heap j; next = heap.next; foreign = kept_entries marked (holdings_of 0 heap foreign) j })
