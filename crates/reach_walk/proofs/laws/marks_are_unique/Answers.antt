use Rattle.reach_walk.proofs.MarkLaws.{marks-unique}
use Rattle.reach_walk.proofs.laws.marks_are_unique.Goals as goal

pub returns : goal.returns
returns c = marks-unique
