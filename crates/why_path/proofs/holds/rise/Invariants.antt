use Rattle.std.proofs.Common.{◌≡◌, ◌<◌, ℕ, suc, length, get_or}
use Rattle.std.specs.declared.cmp.Ordering.TheVariants.{Less}
use Rattle.orca_names.specs.Names.{thing_cmp}
use Rattle.orca_names.specs.declared.reason.Reason.{Reason}
use Rattle.why_path.proofs.holds.rise.Given as goal

abbrev pub invariant-loop-i : goal.invariant-loop-i
invariant-loop-i l = (k : ℕ) (d : Reason) → suc k < l.i → suc k < length l.reasons
    → thing_cmp (get_or l.reasons k d).thing (get_or l.reasons (suc k) d).thing ≡ Less
