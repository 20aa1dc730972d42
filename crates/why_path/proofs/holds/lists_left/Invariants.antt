use Rattle.std.proofs.Common.{◌<◌, Contains}
use Rattle.orca_names.specs.Names.{owner_of}
use Rattle.orca_names.specs.declared.names.Thing.{Thing}
use Rattle.machine_rules.specs.Left.{IsLeft}
use Rattle.why_path.specs.Reasons.{things_in}
use Rattle.why_path.proofs.holds.lists_left.Given as goal

abbrev pub invariant-loop-a : goal.invariant-loop-a
invariant-loop-a l = (x : Thing) → IsLeft l.orca.state.actors x → owner_of x < l.a
    → Contains (things_in l.reasons) x
