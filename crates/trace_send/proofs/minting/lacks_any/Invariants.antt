use Rattle.std.proofs.Common.{◌≡◌, take, false}
use Rattle.std.specs.List.{list_any}
use Rattle.trace_send.specs.Lacking.{is_lacked}
use Rattle.trace_send.proofs.minting.lacks_any.Given as goal

abbrev pub invariant-loop-loaded : goal.invariant-loop-loaded
invariant-loop-loaded l = list_any (λ e. is_lacked l.me l.foreign e.0) (take l.loaded-index l.items) ≡ false
