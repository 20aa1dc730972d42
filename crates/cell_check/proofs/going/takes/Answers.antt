use Rattle.letter_kinds.specs.Telling.{all_brought, brought_in}
use Rattle.actor_cell.specs.Tells.{Tells}
use Rattle.cell_check.proofs.Telling.{still_nothing}
use Rattle.cell_check.proofs.going.takes.Goals as goal

pub returns-in-Ok : goal.returns-in-Ok
returns-in-Ok c =
    still_nothing (Tells c.args.cell.now) (Tells c.take.new.self) (all_brought (brought_in c.args.letter)) c.take.ensures.told c.requires.brought

pub returns : goal.returns
returns c =
    still_nothing (Tells c.args.cell.now) (Tells c.take.new.self) (all_brought (brought_in c.args.letter)) c.take.ensures.told c.requires.brought
