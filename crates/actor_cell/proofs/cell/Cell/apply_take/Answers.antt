use Rattle.std.proofs.Common.{◌⊎◌, true, false, inl, refl, sym, subst, ap, ◌∙◌}
use Rattle.std.specs.FinMap as m
use Rattle.std.specs.Prelude.{Contains, option_map}
use Rattle.letter_kinds.specs.Holdings.{Holdings}
use Rattle.letter_kinds.specs.Letters.{as_letter}
use Rattle.letter_kinds.specs.Load.{as_load}
use Rattle.letter_kinds.specs.Counting.{lower_all, raise_all, receive}
use Rattle.known_rows.specs.Holdings.{holdings_of}
use Rattle.trace_send.specs.Can.{CanLower, CanRaise}
use Rattle.trace_send.proofs.Raising.{can_lower_with, can_raise_with}
use Rattle.turn_rules.specs.Frames.{frame_for}
use Rattle.machine_rules.specs.Take.{cell_after, learn}
use Rattle.actor_cell.specs.Cells.{as_cell}
use Rattle.actor_cell.specs.Takes.{CanTake}
use Rattle.letter_kinds.specs.Telling.{all_brought, brought_in, in_block}
use Rattle.actor_cell.specs.Tells.{Tells}
use Rattle.actor_cell.proofs.Tells.{SameRows, held_received, own_counted, own_received, row_in, same_lowered, same_raised, tells_counted, tells_taken, told_before}
use Rattle.actor_cell.proofs.Lying.{lie_counted}
use Rattle.actor_cell.proofs.cell.Cell.apply_take.Goals as goal

pub returns-in-App-clause-cell : goal.returns-in-App-clause-cell
returns-in-App-clause-cell c =
    let s = as_cell c.args.self.now in
    let me = c.args.self.now.heap.owner in
    let counts = c.receive_trace.ensures.counts ∙ ap (λ a. receive a (as_load c.in-App.load) s.holdings) c.owner-me.ensures in
    let known = c.learn_all.ensures.rows ∙ ap (λ a. learn a (as_load c.in-App.rows) s.known) c.owner-me.ensures in
    let frame = c.start_boxed.ensures ∙ ap (frame_for c.args.code.now s.kind c.in-App.behaviour) c.as_args.ensures in
    let cell = c.wake.ensures.cell.0
    ∙ (λ i. record s { frame = frame i; holdings = counts i; known = known i; dirty = true; reported = false })
    ∙ ap (λ l. cell_after c.args.code.now me (as_letter l) s) (sym c.in-App.is) in
    (cell, c.wake.ensures.cell.1 ∙ c.receive_trace.ensures.heap.0)

pub returns-in-App-clause-told : goal.returns-in-App-clause-told
returns-in-App-clause-told c = λ n row block told.
    let s = c.args.self.now in
    let after = c.receive_trace.new in
    let its = c.receive_trace.ensures in
    let load = c.in-App.load in
    let h = (as_cell s).holdings in
    let own = own_counted s.heap after.heap its.heap.0 (λ q. ap (λ (g : Holdings). option_map (λ e. e.0) (m.get g.rows q)) its.counts ∙ own_received _ (as_load load) h q) its.blocks.0 in
    let held = held_received c.owner-me.result load h s.foreign after.foreign refl (ap (λ (g : Holdings). g.foreign) its.counts) its.blocks.1 in
    let all = tells_taken s.heap after.heap s.foreign after.foreign s.known c.learn_all.new.known load c.in-App.rows own held c.learn_all.ensures.told n row block in
    subst (λ l. Tells s n row block ⊎ Contains (all_brought (brought_in l)) (in_block n row block)) (sym c.in-App.is) (told_before (in_block n row block) (c.wake.ensures.told n row block told) all)

pub raise_counts-requires-clause-can : goal.raise_counts-requires-clause-can
raise_counts-requires-clause-can c = λ foreign.
    let s = c.args.self.now in
    let its : CanRaise s.heap.owner c.in-Inc.things (as_cell s).holdings =
    subst (λ l. CanTake s.heap.owner (as_letter l) (as_cell s).holdings) c.in-Inc.is c.requires.can in
    subst (λ a. CanRaise a c.in-Inc.things (holdings_of s.count s.heap foreign)) (sym c.owner-me.ensures)
    (can_raise_with foreign.entries s.heap.owner c.in-Inc.things (as_cell s).holdings its)

pub returns-in-Inc-clause-cell : goal.returns-in-Inc-clause-cell
returns-in-Inc-clause-cell c =
    let s = as_cell c.args.self.now in
    let me = c.args.self.now.heap.owner in
    let counts = c.raise_counts.ensures.counts c.args.self.now.foreign ∙ ap (λ a. raise_all a c.in-Inc.things s.holdings) c.owner-me.ensures in
    let cell = c.wake-in-Inc.ensures.cell.0 ∙ (λ i. record s { holdings = counts i; dirty = true; reported = false })
    ∙ ap (λ l. cell_after c.args.code.now me (as_letter l) s) (sym c.in-Inc.is) in
    (cell, c.wake-in-Inc.ensures.cell.1 ∙ c.raise_counts.ensures.owner)

pub returns-in-Inc-clause-told : goal.returns-in-Inc-clause-told
returns-in-Inc-clause-told c = λ n row block told.
    let s = c.args.self.now in
    let after = c.raise_counts.new in
    let its = c.raise_counts.ensures in
    let h = (as_cell s).holdings in
    let rows = subst (λ g. SameRows g h) (sym (its.counts s.foreign)) (same_raised _ c.in-Inc.things h) in
    let all = tells_counted s.heap after.heap s.foreign s.foreign s.known s.known s.count after.own (all_brought (brought_in c.args.letter.now)) its.owner rows its.blocks (λ x. refl) refl refl n row block in
    told_before (in_block n row block) (c.wake-in-Inc.ensures.told n row block told) all

pub lower_counts-requires-clause-can : goal.lower_counts-requires-clause-can
lower_counts-requires-clause-can c = λ foreign.
    let s = c.args.self.now in
    let its : CanLower s.heap.owner c.in-Dec.things (as_cell s).holdings =
    subst (λ l. CanTake s.heap.owner (as_letter l) (as_cell s).holdings) c.in-Dec.is c.requires.can in
    subst (λ a. CanLower a c.in-Dec.things (holdings_of s.count s.heap foreign)) (sym c.owner-me.ensures)
    (can_lower_with foreign.entries s.heap.owner c.in-Dec.things (as_cell s).holdings its)

pub returns-in-Dec-clause-cell : goal.returns-in-Dec-clause-cell
returns-in-Dec-clause-cell c =
    let s = as_cell c.args.self.now in
    let me = c.args.self.now.heap.owner in
    let counts = c.lower_counts.ensures.counts c.args.self.now.foreign ∙ ap (λ a. lower_all a c.in-Dec.things s.holdings) c.owner-me.ensures in
    let cell = c.wake-in-Dec.ensures.cell.0 ∙ (λ i. record s { holdings = counts i; dirty = true; reported = false })
    ∙ ap (λ l. cell_after c.args.code.now me (as_letter l) s) (sym c.in-Dec.is) in
    (cell, c.wake-in-Dec.ensures.cell.1 ∙ c.lower_counts.ensures.owner)

pub returns-in-Dec-clause-told : goal.returns-in-Dec-clause-told
returns-in-Dec-clause-told c = λ n row block told.
    let s = c.args.self.now in
    let after = c.lower_counts.new in
    let its = c.lower_counts.ensures in
    let h = (as_cell s).holdings in
    let rows = subst (λ g. SameRows g h) (sym (its.counts s.foreign)) (same_lowered _ c.in-Dec.things h) in
    let all = tells_counted s.heap after.heap s.foreign s.foreign s.known s.known s.count after.own (all_brought (brought_in c.args.letter.now)) its.owner rows its.blocks (λ x. refl) refl refl n row block in
    told_before (in_block n row block) (c.wake-in-Dec.ensures.told n row block told) all

pub returns-in-Confirm-clause-told : goal.returns-in-Confirm-clause-told
returns-in-Confirm-clause-told c = λ n row block told. inl told

pub returns-in-App-clause-lie : goal.returns-in-App-clause-lie
returns-in-App-clause-lie c = λ all.
    let s = c.args.self.now in
    let its = c.receive_trace.ensures in
    let h = (as_cell s).holdings in
    c.wake.ensures.lie (lie_counted s.heap c.receive_trace.new.heap
    (λ q. ap (λ (g : Holdings). row_in (m.get g.rows q)) its.counts ∙ own_received _ (as_load c.in-App.load) h q) its.blocks.0 all)

pub returns-in-Inc-clause-lie : goal.returns-in-Inc-clause-lie
returns-in-Inc-clause-lie c = λ all.
    let s = c.args.self.now in
    let its = c.raise_counts.ensures in
    let h = (as_cell s).holdings in
    let rows = subst (λ g. SameRows g h) (sym (its.counts s.foreign)) (same_raised _ c.in-Inc.things h) in
    c.wake-in-Inc.ensures.lie (lie_counted s.heap c.raise_counts.new.heap rows.own its.blocks all)

pub returns-in-Dec-clause-lie : goal.returns-in-Dec-clause-lie
returns-in-Dec-clause-lie c = λ all.
    let s = c.args.self.now in
    let its = c.lower_counts.ensures in
    let h = (as_cell s).holdings in
    let rows = subst (λ g. SameRows g h) (sym (its.counts s.foreign)) (same_lowered _ c.in-Dec.things h) in
    c.wake-in-Dec.ensures.lie (lie_counted s.heap c.lower_counts.new.heap rows.own its.blocks all)
