use Rattle.reach_walk.proofs.Loads.{loads-exact}
use Rattle.reach_walk.proofs.laws.loads_are_exact.Goals as goal

pub returns : goal.returns
returns c = loads-exact
