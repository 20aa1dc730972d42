use Rattle.letter_kinds.proofs.Rounds.{largest_by_rounds}
use Rattle.letter_kinds.proofs.laws.rounds_give_the_largest.Goals as goal

pub returns : goal.returns
returns c = largest_by_rounds
