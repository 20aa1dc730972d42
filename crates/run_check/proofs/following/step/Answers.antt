use Rattle.std.proofs.Common.{◌∷◌, []}
use Rattle.orca_core.proofs.Blockless.{none_by, none_put, none_stand}
use Rattle.run_check.proofs.following.step.Goals as goal

pub step-requires-clause-stand : goal.step-requires-clause-stand
step-requires-clause-stand c = none_stand _ c.args.orca.now c.requires.none

pub step-requires-clause-put : goal.step-requires-clause-put
step-requires-clause-put c = none_put c.args.orca.now.blocks (0 ∷ []) c.requires.none

pub returns-clause-none : goal.returns-clause-none
returns-clause-none c =
    none_by c.args.orca.now c.step.new.self c.args.event c.step.result c.requires.none c.step.ensures.blocks c.step.ensures.same
