use Rattle.std.proofs.Common.{refl}
use Rattle.ready_set.proofs.NextWords.{next-first}
use Rattle.ready_set.proofs.levels.first_in_word.Goals as goal

pub returns : goal.returns
returns c = next-first c.args.words.now c.args.word c.lowest_bit.result _ refl c.lowest_bit.ensures
