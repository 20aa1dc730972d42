use Rattle.std.proofs.Common.{◌≡◌, length, ap, arith, sym, subst, ◌∙◌}
use Rattle.std.proofs.lemmas.Result.{IfOk-weaker}
use Rattle.reach_walk.proofs.Distinct.{length-in_order}
use Rattle.reach_walk.specs.Marks.{marks_of}
use Rattle.reach_walk.specs.Reach.{named_by, row_edges, AreReached}
use Rattle.reach_walk.proofs.Found.{reached-same, marks-listed}
use Rattle.reach_walk.proofs.marks.mark_within.Goals as goal

pub returns-clause-exact : goal.returns-clause-exact
returns-clause-exact g c =
    let edges = row_edges (g.R.RowReader.rows c.args.rows.now) in
    let roots = named_by c.args.roots.now in
    let sorted = reached-same edges roots c.walk_rows.new.seen.things c.sort.new.self.things c.in_ok-walk_rows.ensures.reached c.in_ok-sort.ensures.same in
    IfOk-weaker c.into_vec.result _ (λ found. AreReached edges roots found.items) (λ found same. subst (AreReached edges roots) (sym same) sorted) c.into_vec.ensures

pub returns-clause-list : goal.returns-clause-list
returns-clause-list g c =
    let rows = c.args.rows.now in
    let its = g.R.RowReader.rows rows in
    let all = g.R.RowReader.all rows in
    let listed = marks-listed its all c.args.roots.now (g.met.R.RowReader.within rows) c.walk_rows.new.seen.things c.sort.new.self.things
    c.in_ok-walk_rows.ensures.reached c.in_ok-sort.ensures.same c.in_ok-sort.ensures.rising
    in
    IfOk-weaker c.into_vec.result _ (λ found. found.items ≡ marks_of its all c.args.roots.now) (λ found same. same ∙ listed) c.into_vec.ensures

pub returns-clause-steps : goal.returns-clause-steps
returns-clause-steps g c =
    let things = c.walk_rows.new.seen.things in
    let sorted = c.sort.new.self.things in
    let same = c.in_ok-sort.ensures.same in
    let many = length-in_order things sorted c.in_ok-walk_rows.ensures.seen.once c.in_ok-sort.ensures.rising (λ x h. (same x).1 h) (λ x h. (same x).0 h) in
    IfOk-weaker c.into_vec.result _ _ (λ found all. omega (arith, ap length all, many, c.in_ok-walk_rows.ensures.steps)) c.into_vec.ensures
