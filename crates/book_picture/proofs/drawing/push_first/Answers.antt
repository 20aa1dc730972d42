use Rattle.std.proofs.lemmas.Option.{IfSome_then}
use Rattle.actor_cell.specs.Tells.{Tells}
use Rattle.letter_kinds.specs.Telling.{ToldByOne}
use Rattle.orca_core.proofs.Blockless.{none_told}
use Rattle.book_picture.proofs.drawing.push_first.Goals as goal

pub push_actor-requires-clause-cell : goal.push_actor-requires-clause-cell
push_actor-requires-clause-cell c =
    IfSome_then c.cell.result c.cell.ensures.blocks (λ x. none_told c.args.orca.now.blocks (Tells x.now) c.requires.none)

pub push_actor-requires-clause-mail : goal.push_actor-requires-clause-mail
push_actor-requires-clause-mail c =
    IfSome_then c.mail.result c.mail.ensures.blocks (λ x. none_told c.args.orca.now.blocks (ToldByOne x.now.brought) c.requires.none)
