use Rattle.std.proofs.Common.{◌≡◌, ◌-◌, length}
use Rattle.reach_walk.specs.Walk.{IsSeen}
use Rattle.reach_walk.proofs.Covers.{cover_of}
use Rattle.reach_walk.proofs.Walking.{Walks}
use Rattle.reach_walk.proofs.reach.walk.Given as goal

abbrev pub invariant-loop-at : goal.invariant-loop-at
invariant-loop-at g l = record {
  kept : g.E.Edges.kept l.graph ≡ g.E.Edges.kept l.fn.graph;
  seen : IsSeen l.seen;
  walks : Walks (g.E.Edges.edges l.fn.graph) l.roots l.seen.things l.at;
}

abbrev pub decreases-loop-at : goal.decreases-loop-at
decreases-loop-at g l = length (cover_of (g.E.Edges.edges l.fn.graph) (g.E.Edges.all l.fn.graph) l.roots) - l.at
