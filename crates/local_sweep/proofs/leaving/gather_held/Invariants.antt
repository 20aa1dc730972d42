use Rattle.std.proofs.Common.{◌≡◌, not, map, take}
use Rattle.std.specs.List.{filter}
use Rattle.std.specs.FinMap as m
use Rattle.orca_names.specs.Names.{owner_of}
use Rattle.letter_kinds.specs.Counting.{by_owner}
use Rattle.letter_kinds.specs.Detector.{has}
use Rattle.local_sweep.proofs.leaving.gather_held.Given as goal

abbrev pub invariant-loop-j : goal.invariant-loop-j
invariant-loop-j l =
    l.back.items ≡ by_owner (map (λ e. (e.0, e.1.0)) (filter (λ e. not (has l.gone (owner_of e.0))) (take l.j (m.entries l.foreign.entries))))
