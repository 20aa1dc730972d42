use Rattle.std.proofs.Common.{◌≡◌, false, take}
use Rattle.std.specs.List.{list_any}
use Rattle.local_sweep.specs.Marked.{is_for}
use Rattle.local_sweep.proofs.named.is_named.Given as goal

abbrev pub invariant-loop-value : goal.invariant-loop-value
invariant-loop-value l = list_any (is_for l.thing) (take l.value-index l.values) ≡ false
