use Rattle.std.proofs.Common.{◌≡◌, map, take}
use Rattle.why_path.specs.Edges.{leads_of_letters}
use Rattle.why_path.specs.Walk.{IsUnderWay, reached}
use Rattle.why_path.proofs.walk.Walk.reach_letters.Given as goal

abbrev pub invariant-loop-k : goal.invariant-loop-k
invariant-loop-k l = record {
  lines : l.self.reasons.items
      ≡ map (reached l.step.parent l.step.level (leads_of_letters 0 (take l.k l.mail.letters))) l.fn.self.reasons.items;
  next : IsUnderWay l.step.level l.self;
}
