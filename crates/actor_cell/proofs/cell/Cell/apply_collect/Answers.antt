use Rattle.std.proofs.Common.{false, [], not, sym, ap, subst, ◌∙◌}
use Rattle.std.specs.FinMap as m
use Rattle.foreign_table.specs.Back.{BackRises, goes_back}
use Rattle.letter_kinds.specs.Counting.{sweep}
use Rattle.machine_rules.specs.Collect.{is_marked}
use Rattle.actor_cell.specs.declared.sweeping.Sweep.{Sweep}
use Rattle.actor_cell.specs.Cells.{as_cell}
use Rattle.actor_cell.proofs.Swept.{swept_is, unused_rises, used_stay}
use Rattle.actor_cell.proofs.Tells.{brought_left, held_given, own_freed, tells_only}
use Rattle.actor_cell.proofs.Lying.{lie_freed}
use Rattle.actor_cell.proofs.cell.Cell.apply_collect.Goals as goal

pub apply-requires : goal.apply-requires
apply-requires c =
    let s = c.args.self.now in
    (is_marked c.requires.0 s.heap.owner (as_cell s), ap (λ (found : Sweep). found.plan) c.requires.1)

pub forget-requires : goal.forget-requires
forget-requires c =
    let s = c.args.self.now in
    subst BackRises (sym (c.as_slice.ensures ∙ ap (λ (found : Sweep). found.unused) c.requires.1)) (unused_rises s c.requires.0)

pub returns-clause-cell : goal.returns-clause-cell
returns-clause-cell c = λ trace is.
    let s = c.args.self.now in
    let marked = is_marked trace s.heap.owner (as_cell s) in
    let holdings = c.apply.ensures.swept marked s.count (ap (λ (found : Sweep). found.plan) is) in
    let unused = c.as_slice.ensures ∙ ap (λ (found : Sweep). found.unused) is in
    let known = c.forget.ensures.rows ∙ (λ i. m.retain_keys s.known.rows (λ x. not (goes_back (unused i) x))) ∙ used_stay s trace in
    (λ i. record (as_cell s) { holdings = holdings i; known = c.forget.new.self.rows; dirty = false })
    ∙ swept_is s trace (sweep marked s.heap.owner (as_cell s).holdings) c.forget.new.self.rows known

pub returns-clause-told : goal.returns-clause-told
returns-clause-told c =
    let s = c.args.self.now in
    let found = c.args.found.now in
    tells_only s.heap c.apply.new.heap s.foreign c.apply.new.foreign s.known c.forget.new.self [] (own_freed found.plan.free s.heap c.apply.new.heap c.apply.ensures.heap)
    (held_given found.plan.back s.foreign c.apply.new.foreign [] c.apply.ensures.foreign)
    (brought_left s.known c.forget.new.self (λ x. not (goes_back c.as_slice.result.now x)) [] c.forget.ensures.rows c.forget.ensures.blocks)

pub returns-clause-lie : goal.returns-clause-lie
returns-clause-lie c = lie_freed c.args.found.now.plan.free c.args.self.now.heap c.apply.new.heap c.apply.ensures.heap
