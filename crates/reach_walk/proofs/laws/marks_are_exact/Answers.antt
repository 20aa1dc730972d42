use Rattle.reach_walk.proofs.MarkLaws.{marks-exact}
use Rattle.reach_walk.proofs.laws.marks_are_exact.Goals as goal

pub returns : goal.returns
returns c = marks-exact
