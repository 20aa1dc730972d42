use Rattle.std.proofs.Common.{◌≡◌, ◌<◌, ◌≤◌, ◌∙◌, Some, length, refl, sym, ap, subst, arith}
use Rattle.std.specs.Prelude.{slice_get}
use Rattle.std.proofs.lemmas.Result.{IfOk-weaker}
use Rattle.reach_walk.specs.Reach.{AreReached}
use Rattle.reach_walk.specs.Walk.{Adds, next_of}
use Rattle.reach_walk.proofs.Covers.{cover_of, covers}
use Rattle.reach_walk.proofs.Distinct.{length-le_cover}
use Rattle.reach_walk.proofs.Found.{reached-same}
use Rattle.reach_walk.proofs.Walking.{begins, goes_on, ends}
use Rattle.reach_walk.proofs.reach.walk.Goals as goal

pub loop-at-init : goal.loop-at-init
loop-at-init g c = record {
  kept = refl;
  seen = c.in_ok-see_all.ensures.seen;
  walks = begins (g.E.Edges.edges c.args.graph.now) c.args.roots.now c.see_all.new.self.things
      (subst (λ old. Adds c.args.roots.now old c.see_all.new.self.things) c.new-seen.ensures.none c.in_ok-see_all.ensures.adds);
}

pub loop-at-smaller : goal.loop-at-smaller
loop-at-smaller g c =
    let edges = g.E.Edges.edges c.args.graph.now in
    let all = g.E.Edges.all c.args.graph.now in
    let roots = c.args.roots.now in
    let things = c.loop-at.seen.things in
    let fits : length things ≤ length (cover_of edges all roots) = length-le_cover things (cover_of edges all roots) c.loop-at.invariant.seen.once
    (λ x seen. covers edges all roots (g.met.E.Edges.within c.args.graph.now) x (c.loop-at.invariant.walks.reached x seen)) in
    omega (arith, fits, c.len.ensures)

pub loop-at-preserved : goal.loop-at-preserved
loop-at-preserved g c =
    let edges = g.E.Edges.edges c.args.graph.now in
    let things = c.loop-at.seen.things in
    let more = c.see_all-in-loop-at.new.self.things in
    let t = c.at-thing.result in
    let inside : c.loop-at.at < length things = omega (arith, c.len.ensures) in
    let at : slice_get things c.loop-at.at ≡ Some t = c.at-thing.ensures in
    let same = g.met.E.Edges.same_edges c.args.graph.now c.loop-at.graph c.loop-at.invariant.kept in
    let found : c.as_slice.result.now ≡ next_of edges t = c.as_slice.ensures.value ∙ (c.in_ok-find_next.ensures.ok ∙ ap (λ e. next_of e t) same) in
    record {
      kept = c.find_next.ensures.kept ∙ c.loop-at.invariant.kept;
      seen = c.in_ok-see_all-2.ensures.seen;
      walks = goes_on edges c.args.roots.now things more c.loop-at.at t c.loop-at.invariant.walks at (subst (λ ts. Adds ts things more) found c.in_ok-see_all-2.ensures.adds);
    }

pub returns-clause-exact : goal.returns-clause-exact
returns-clause-exact g c =
    let edges = g.E.Edges.edges c.args.graph.now in
    let roots = c.args.roots.now in
    let things = c.loop-at.seen.things in
    let sorted = reached-same edges roots things c.sort.new.self.things
    (ends edges roots things c.loop-at.at (omega (arith, c.len.ensures)) c.loop-at.invariant.walks) c.in_ok-sort.ensures.same
    in
    IfOk-weaker c.into_vec.result _ (λ found. AreReached edges roots found.items) (λ found same. subst (AreReached edges roots) (sym same) sorted) c.into_vec.ensures
