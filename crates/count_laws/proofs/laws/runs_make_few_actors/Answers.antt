use Rattle.count_laws.proofs.bounds.Bounding.{runs_make_few}
use Rattle.count_laws.proofs.laws.runs_make_few_actors.Goals as goal

pub returns : goal.returns
returns c = runs_make_few
