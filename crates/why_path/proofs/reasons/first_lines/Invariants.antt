use Rattle.std.proofs.Common.{◌≡◌, map, take}
use Rattle.why_path.specs.Walk.{first_line}
use Rattle.why_path.proofs.reasons.first_lines.Given as goal

abbrev pub invariant-loop-thing : goal.invariant-loop-thing
invariant-loop-thing l = l.reasons.items ≡ map (first_line l.orca.state.actors) (take l.thing-index l.things)
