use Rattle.std.proofs.Common.{◌≡◌, map, take}
use Rattle.std.specs.FinMap as m
use Rattle.count_ledger.specs.Lines.{raised_by}
use Rattle.count_ledger.specs.declared.lines.Column.TheVariants.{Held}
use Rattle.count_ledger.proofs.Said.{held_by}
use Rattle.count_ledger.proofs.held.add_held.Given as goal

abbrev pub invariant-loop-i : goal.invariant-loop-i
invariant-loop-i l = l.sums ≡ map (raised_by Held (held_by (take l.i (m.entries l.foreign.entries))))
    l.fn.sums
