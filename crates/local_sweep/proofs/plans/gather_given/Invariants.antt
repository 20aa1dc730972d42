use Rattle.std.proofs.Common.{◌≡◌, not, map, take}
use Rattle.std.specs.List.{filter}
use Rattle.std.specs.FinMap as m
use Rattle.letter_kinds.specs.Counting.{by_owner}
use Rattle.local_sweep.proofs.plans.gather_given.Given as goal

abbrev pub invariant-loop-j : goal.invariant-loop-j
invariant-loop-j g l =
    let marked = g.K.Kept.marked l.kept in
    l.back.items ≡ by_owner (map (λ e. (e.0, e.1.0)) (filter (λ e. not (marked e.0)) (take l.j (m.entries (g.K.Kept.held l.kept).entries))))
