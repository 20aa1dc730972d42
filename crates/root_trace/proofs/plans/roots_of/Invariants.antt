use Rattle.std.proofs.Common.{◌≡◌, ◌==◌, ◌++◌, not, map, take}
use Rattle.std.specs.List.{filter}
use Rattle.std.specs.FinMap as m
use Rattle.root_trace.specs.Own.{object_root}
use Rattle.root_trace.proofs.plans.roots_of.Given as goal

abbrev pub invariant-loop-i : goal.invariant-loop-i
invariant-loop-i l =
    l.roots.items
    ≡ l.fn.fields.values ++ map (object_root l.fn.heap.owner) (filter (λ e. not (e.1.1 == 0)) (take l.i (m.entries l.fn.heap.rows)))
