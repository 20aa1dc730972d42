use Rattle.std.proofs.Common.{[], ◌∷◌}
use Rattle.orca_core.proofs.Blockless.{none_put_each, none_stand}
use Rattle.run_check.proofs.board_tests.finishes_with_first.Goals as goal

pub finish-end-requires-clause-stand : goal.finish-end-requires-clause-stand
finish-end-requires-clause-stand c = none_stand _ c.args.orca.now c.requires.none

pub finish-end-requires-clause-put : goal.finish-end-requires-clause-put
finish-end-requires-clause-put c = none_put_each c.args.orca.now.blocks (0 ∷ []) c.requires.none
