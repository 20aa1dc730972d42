use Rattle.std.proofs.Common.{◌≡◌, ◌==◌, ◌&&◌, take, map}
use Rattle.std.specs.List.{filter}
use Rattle.orca_names.specs.Names.{owner_of}
use Rattle.trace_send.specs.Lacking.{is_lacked}
use Rattle.trace_send.proofs.minting.lacked_of.Given as goal

abbrev pub invariant-loop-thing : goal.invariant-loop-thing
invariant-loop-thing l = l.amounts ≡ map (λ x. (x, l.weight)) (filter (λ x. is_lacked l.me l.foreign x && (owner_of x == l.owner)) (take l.thing-index l.things))
