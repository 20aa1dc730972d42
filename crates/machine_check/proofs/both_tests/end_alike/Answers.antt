use Rattle.std.proofs.Common.{[], ◌∷◌}
use Rattle.orca_core.proofs.Blockless.{none_put_each, none_stand}
use Rattle.machine_check.proofs.both_tests.end_alike.Goals as goal

pub prints_the_same-requires : goal.prints_the_same-requires
prints_the_same-requires c = record {
  home = c.requires.home;
  stand = none_stand _ c.args.orca.now c.requires.none;
  put = none_put_each c.args.orca.now.blocks (0 ∷ []) c.requires.none;
}
