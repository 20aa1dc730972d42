use Rattle.std.proofs.Common.{◌≡◌, ◌++◌, take}
use Rattle.orca_names.proofs.row.Args.extend_from_slice.Given as goal

abbrev pub invariant-loop-value : goal.invariant-loop-value
invariant-loop-value l = l.self ≡ l.fn.self ++ take l.value-index l.values
