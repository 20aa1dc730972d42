use Rattle.std.proofs.Common.{[], ◌∷◌}
use Rattle.orca_core.proofs.Blockless.{none_after, none_put, none_ready, none_stand}
use Rattle.hall_rules.proofs.entering.apply.Goals as goal

pub apply_ready-requires-clause-stand : goal.apply_ready-requires-clause-stand
apply_ready-requires-clause-stand c = none_stand _ c.args.orca.now c.requires.none

pub apply_ready-requires-clause-found : goal.apply_ready-requires-clause-found
apply_ready-requires-clause-found c = none_ready _ c.args.ready c.args.orca.now c.requires.none

pub apply_ready-requires-clause-put : goal.apply_ready-requires-clause-put
apply_ready-requires-clause-put c = none_put c.args.orca.now.blocks (0 ∷ []) c.requires.none

pub returns-clause-none : goal.returns-clause-none
returns-clause-none c =
    let m = c.args.orca.now in let n = c.apply_ready.new.self in
    none_after m.state n.state c.args.ready.event m.blocks n.blocks c.requires.none c.apply_ready.ensures.blocks
