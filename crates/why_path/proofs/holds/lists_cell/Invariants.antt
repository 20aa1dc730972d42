use Rattle.std.proofs.Common.{◌<◌, ℕ, suc, Contains, get_or}
use Rattle.orca_names.specs.declared.names.Thing.{Thing}
use Rattle.orca_core.specs.Left.{things_of}
use Rattle.why_path.specs.Reasons.{things_in}
use Rattle.why_path.proofs.holds.lists_cell.Given as goal

abbrev pub invariant-loop-i : goal.invariant-loop-i
invariant-loop-i l = (k : ℕ) (d : Thing) → k < l.i
    → Contains (things_in l.reasons) (get_or (things_of l.cell) (suc k) d)
