use Rattle.std.proofs.Common.{[], ◌∷◌, ◌∙◌}
use Rattle.orca_core.proofs.Blockless.{none_put, none_ready, none_stand}
use Rattle.machine_check.proofs.tests.does_prepared.Goals as goal

pub prepare-requires-clause-stand : goal.prepare-requires-clause-stand
prepare-requires-clause-stand c = none_stand _ c.args.machine.now c.requires.none

pub apply_ready-requires-clause-stand : goal.apply_ready-requires-clause-stand
apply_ready-requires-clause-stand c = none_stand _ c.prepare.new.self (c.prepare.ensures.same.blocks ∙ c.requires.none)

pub apply_ready-requires-clause-found : goal.apply_ready-requires-clause-found
apply_ready-requires-clause-found c =
    none_ready _ c.in_ok-ready.ready c.prepare.new.self (c.prepare.ensures.same.blocks ∙ c.requires.none)

pub apply_ready-requires-clause-put : goal.apply_ready-requires-clause-put
apply_ready-requires-clause-put c =
    none_put c.prepare.new.self.blocks (0 ∷ []) (c.prepare.ensures.same.blocks ∙ c.requires.none)
