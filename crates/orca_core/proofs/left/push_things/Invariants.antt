use Rattle.std.proofs.Common.{◌≡◌, ◌∷◌, ◌++◌, [], map, take}
use Rattle.std.specs.FinMap as m
use Rattle.orca_names.specs.declared.names.Thing.TheVariants.{Actor, Obj}
use Rattle.orca_core.proofs.left.push_things.Given as goal

abbrev pub invariant-loop-i : goal.invariant-loop-i
invariant-loop-i l =
    l.things.items ≡ (l.fn.things.items ++ Actor l.cell.heap.owner ∷ [])
    ++ map (λ e. Obj (record { owner = l.cell.heap.owner; serial = e.0 })) (take l.i (m.entries l.cell.heap.rows))
