use Rattle.picture_laws.proofs.AllSums.{sums_are_counts}
use Rattle.picture_laws.proofs.laws.sums_are_counts.Goals as goal

pub returns : goal.returns
returns c = sums_are_counts
