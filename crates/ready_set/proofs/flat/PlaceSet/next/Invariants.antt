use Rattle.std.proofs.Common.{◌-◌, ◌≤◌, length}
use Rattle.ready_set.specs.Next.{AreOff}
use Rattle.ready_set.proofs.flat.PlaceSet.next.Given as goal

abbrev pub invariant-loop-at : goal.invariant-loop-at
invariant-loop-at l = record {
  after : l.from ≤ l.at;
  passed : AreOff l.self l.from l.at;
}

abbrev pub decreases-loop-at : goal.decreases-loop-at
decreases-loop-at l = length l.self - l.at
