use Rattle.std.proofs.Common.{subst, sym}
use Rattle.letter_kinds.specs.Telling.{HoldsTold}
use Rattle.actor_cell.specs.Tells.{Tells}
use Rattle.actor_cell.proofs.go.Sending.find_few.Goals as goal

pub find_found-requires-clause-stand : goal.find_found-requires-clause-stand
find_found-requires-clause-stand g c =
    subst (λ known. HoldsTold known (Tells c.args.self.now.cell.now)) (sym c.find_things.ensures.words.known) c.requires.stand
