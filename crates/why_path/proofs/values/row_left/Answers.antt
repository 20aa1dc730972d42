use Rattle.actor_cell.specs.Tells.{Tells}
use Rattle.orca_core.proofs.Blockless.{none_told}
use Rattle.why_path.proofs.values.row_left.Goals as goal

pub untold_are_here-requires : goal.untold_are_here-requires
untold_are_here-requires c =
    none_told c.args.orca.now.blocks (Tells c.in-Some.seat.cell.now) c.requires.none c.in-Some.ensures.blocks
