use Rattle.std.proofs.Common.{◌≡◌, map, take}
use Rattle.std.specs.List.{filter}
use Rattle.std.specs.FinMap as m
use Rattle.local_sweep.specs.Plan.{is_freed, object_named}
use Rattle.local_sweep.proofs.plans.gather_freed.Given as goal

abbrev pub invariant-loop-i : goal.invariant-loop-i
invariant-loop-i g l =
    let heap = g.K.Kept.own l.kept in
    let gone = is_freed (g.K.Kept.marked l.kept) heap.owner in
    l.free.items ≡ map (λ e. object_named heap.owner e.0) (filter gone (take l.i (m.entries heap.rows)))
