use Rattle.std.proofs.Common.{◌≡◌, map, take}
use Rattle.why_path.specs.Walk.{IsUnderWay, reached_from}
use Rattle.why_path.proofs.walk.Walk.reach_level.Given as goal

abbrev pub invariant-loop-parent : goal.invariant-loop-parent
invariant-loop-parent l = record {
  lines : l.self.reasons.items
      ≡ map (reached_from l.orca.state.actors l.level (take l.parent-index l.front)) l.fn.self.reasons.items;
  next : IsUnderWay l.level l.self;
}
