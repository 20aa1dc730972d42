use Rattle.std.proofs.Common.{None, ap, ◌∙◌}
use Rattle.machine_rules.specs.Collect.{is_marked}
use Rattle.actor_cell.specs.declared.sweeping.Sweep.{Sweep}
use Rattle.actor_cell.specs.Cells.{as_cell}
use Rattle.actor_cell.specs.Outs.{Out, decs_to}
use Rattle.actor_cell.proofs.Marked.{back_same}
use Rattle.actor_cell.proofs.cell.Cell.collect.Goals as goal

pub apply_collect-requires : goal.apply_collect-requires
apply_collect-requires g c = (c.args.trace, c.in_ok-found.ensures.sweep)

pub returns-clause-cell : goal.returns-clause-cell
returns-clause-cell g c = c.apply_collect.ensures.cell c.args.trace c.in_ok-found.ensures.sweep

pub returns-clause-told : goal.returns-clause-told
returns-clause-told g c = c.apply_collect.ensures.told

pub returns-clause-out : goal.returns-clause-out
returns-clause-out g c =
    let s = c.args.self.now in
    let back = c.into_vec.ensures ∙ ap (λ (found : Sweep). found.plan.back) c.in_ok-found.ensures.sweep
    ∙ back_same s.count s.heap s.foreign (is_marked c.args.trace s.heap.owner (as_cell s)) in
    let out : Out → Out = λ o. o in
    ap out (λ i. record { letters = (c.decs_of.ensures ∙ ap decs_to back) i; notes = c.new.ensures i; print = None; made = None })
