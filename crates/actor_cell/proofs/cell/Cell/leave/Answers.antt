use Rattle.std.proofs.Common.{None, ap, ◌∙◌}
use Rattle.std.specs.List.Sorted.{IsStrictlySortedBy}
use Rattle.actor_cell.specs.Cells.{as_cell}
use Rattle.actor_cell.specs.Outs.{Out, left_behind, decs_to}
use Rattle.actor_cell.proofs.cell.Cell.leave.Goals as goal

pub give_back-requires : goal.give_back-requires
unfolding IsStrictlySortedBy
give_back-requires c = (tt, tt)

pub returns : goal.returns
returns c =
    let out : Out → Out = λ o. o in
    let its = ap (λ me. decs_to (left_behind me (as_cell c.args.self.now))) c.owner.ensures in
    ap out (λ i. record { letters = (c.decs_of.ensures ∙ ap decs_to c.in_ok-back.ensures ∙ its) i; notes = c.new.ensures i; print = None; made = None })
