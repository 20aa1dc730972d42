use Rattle.std.proofs.Common.{◌≡◌, take, []}
use Rattle.std.specs.List.{filter}
use Rattle.trace_send.specs.Lacking.{is_lacked}
use Rattle.trace_send.proofs.minting.first_owner.Given as goal

abbrev pub invariant-loop-thing : goal.invariant-loop-thing
invariant-loop-thing l = filter (is_lacked l.me l.foreign) (take l.thing-index l.things) ≡ []
