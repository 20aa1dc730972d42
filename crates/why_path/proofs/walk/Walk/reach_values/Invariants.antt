use Rattle.std.proofs.Common.{◌≡◌, map, take}
use Rattle.why_path.specs.Edges.{leads_from}
use Rattle.why_path.specs.Walk.{IsUnderWay, edge_in, reached}
use Rattle.why_path.proofs.walk.Walk.reach_values.Given as goal

abbrev pub invariant-loop-i : goal.invariant-loop-i
invariant-loop-i l = record {
  lines : l.self.reasons.items
      ≡ map (reached l.step.parent l.step.level (leads_from (edge_in l.holder) 0 (take l.i l.values))) l.fn.self.reasons.items;
  next : IsUnderWay l.step.level l.self;
}
