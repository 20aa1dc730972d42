use Rattle.machine_laws.proofs.Counting.{runs_count_at_most, runs_count_in_few_bits}
use Rattle.machine_laws.proofs.laws.counts_stay_small.Goals as goal

pub returns-clause-weights : goal.returns-clause-weights
returns-clause-weights c = runs_count_at_most

pub returns-clause-bits : goal.returns-clause-bits
returns-clause-bits c = runs_count_in_few_bits
