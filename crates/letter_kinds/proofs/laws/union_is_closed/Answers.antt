use Rattle.letter_kinds.proofs.Rounds.{union_closed}
use Rattle.letter_kinds.proofs.laws.union_is_closed.Goals as goal

pub returns : goal.returns
returns c = union_closed
