use Rattle.std.proofs.Common.{sym, subst, arith}
use Rattle.known_rows.specs.Holdings.{holdings_of}
use Rattle.trace_send.proofs.Steps.{own-actor}
use Rattle.trace_send.specs.Can.{CanLower}
use Rattle.cell_check.proofs.count_tests.lowered.Goals as goal

pub takes-requires-clause-can : goal.takes-requires-clause-can
takes-requires-clause-can c =
    let cell = c.block.new.self in
    let own = own-actor cell.count cell.heap cell.foreign c.owner.result in
    subst (λ things. CanLower cell.heap.owner things (holdings_of cell.count cell.heap cell.foreign)) (sym c.in_ok-things.ensures)
    (λ _. omega (arith, own, c.get.ensures.count, c.if-get-eq0.false), tt)
