use Rattle.letter_kinds.proofs.Rounds.{same_largest}
use Rattle.letter_kinds.proofs.laws.one_largest.Goals as goal

pub returns : goal.returns
returns c = same_largest
