use Rattle.std.proofs.Common.{◌≡◌, length}
use Rattle.why_path.specs.Walk.{IsDoneTo}
use Rattle.why_path.proofs.walk.Walk.finish.Given as goal

abbrev pub invariant-loop-level : goal.invariant-loop-level
invariant-loop-level l = record {
  done : IsDoneTo l.orca.state.actors l.level l.self;
  long : length l.self.reasons.items ≡ l.most;
}
