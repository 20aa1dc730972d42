use Rattle.std.proofs.Common.{inr}
use Rattle.actor_cell.proofs.Here.{here_tells}
use Rattle.cell_check.proofs.count_tests.keeps_counted.Goals as goal

pub collects-requires : goal.collects-requires
collects-requires c =
    let here = c.untold_are_here.ensures in
    here_tells c.own_counted.new.heap c.hold_last.new.foreign c.args.cell.now.known
    (c.own_counted.ensures here.own) (c.hold_last.ensures here.held)
    (λ n row block told. c.requires n row block (inr (inr told)))
