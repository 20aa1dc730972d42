use Rattle.std.proofs.Common.{◌≡◌, ◌<◌, ◌≤◌, get_or, length, map, Some, subst, refl, ◌∙◌, arith}
use Rattle.std.specs.Prelude.{slice_get}
use Rattle.std.proofs.lemmas.Option.{slice_get-get_or}
use Rattle.orca_names.specs.declared.names.Thing.TheVariants.{Actor, Obj}
use Rattle.reach_walk.specs.Reach.{named_by, row_edges}
use Rattle.reach_walk.specs.Rows.{row_edges-within}
use Rattle.reach_walk.specs.Walk.{Adds, next_of}
use Rattle.reach_walk.proofs.Covers.{cover_of, covers}
use Rattle.reach_walk.proofs.Distinct.{length-le_cover}
use Rattle.reach_walk.proofs.Walking.{begins, goes_on, ends}
use Rattle.reach_walk.proofs.walk_rows.walk_rows.Goals as goal

pub loop-i-init : goal.loop-i-init
loop-i-init g c = record {
  seen = c.in_ok-look_all.ensures.seen;
  walks = begins (row_edges (g.R.RowReader.rows c.args.rows.now)) (named_by c.args.roots.now) c.look_all.new.seen.things
      (subst (λ old. Adds (named_by c.args.roots.now) old c.look_all.new.seen.things) c.requires.none c.in_ok-look_all.ensures.adds);
  counted = omega (arith, c.in_ok-look_all.ensures.steps);
  rows = refl;
  all = refl;
  beside = refl;
}

pub loop-i-smaller : goal.loop-i-smaller
loop-i-smaller g c =
    let rows = g.R.RowReader.rows c.args.rows.now in
    let all = g.R.RowReader.all c.args.rows.now in
    let edges = row_edges rows in
    let roots = named_by c.args.roots.now in
    let things = c.loop-i.seen.things in
    let cover = cover_of edges (map Obj all) roots in
    let fits : length things ≤ length cover = length-le_cover things cover c.loop-i.invariant.seen.once
    (λ x seen. covers edges (map Obj all) roots (row_edges-within rows all (g.met.R.RowReader.within c.args.rows.now)) x (c.loop-i.invariant.walks.reached x seen)) in
    omega (arith, fits, c.len.ensures)

pub loop-i-preserved : goal.loop-i-preserved
loop-i-preserved g c =
    let edges = row_edges (g.R.RowReader.rows c.args.rows.now) in
    let things = c.loop-i.seen.things in
    let kept = c.loop-i.invariant in
    let now = c.take.ensures in
    let inside : c.loop-i.i < length things = omega (arith, c.len.ensures) in
    let t = get_or things c.loop-i.i (Actor 0) in
    let at : slice_get things c.loop-i.i ≡ Some t = slice_get-get_or things c.loop-i.i (Actor 0) inside in
    let adds : Adds (next_of edges t) things c.take.new.seen.things = subst (λ rows. Adds (next_of (row_edges rows) t) things c.take.new.seen.things) kept.rows (c.in_ok-take.ensures.adds t at) in
    record {
      seen = c.in_ok-take.ensures.seen;
      walks = goes_on edges (named_by c.args.roots.now) things c.take.new.seen.things c.loop-i.i t kept.walks at adds;
      counted = omega (arith, c.in_ok-take.ensures.steps t at, c.in_ok-take.ensures.few t at, kept.counted);
      rows = now.rows.0 ∙ kept.rows;
      all = now.rows.1 ∙ kept.all;
      beside = now.rows.2 ∙ kept.beside;
    }

pub returns-clause-reached : goal.returns-clause-reached
returns-clause-reached g c =
    ends (row_edges (g.R.RowReader.rows c.args.rows.now)) (named_by c.args.roots.now) c.loop-i.seen.things c.loop-i.i
    (omega (arith, c.len.ensures)) c.loop-i.invariant.walks
