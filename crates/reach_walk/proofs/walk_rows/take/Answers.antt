use Rattle.std.proofs.Common.{◌≡◌, ◌∷◌, [], cond, None, Some, sym, ap, subst, ◌∙◌}
use Rattle.std.specs.Prelude.{unwrap_or}
use Rattle.std.proofs.lemmas.Result.{on_ok_weaker}
use Rattle.orca_names.specs.declared.names.Thing.TheVariants.{Actor}
use Rattle.reach_walk.specs.Reach.{row_edges, thing_row}
use Rattle.reach_walk.specs.Walk.{Adds}
use Rattle.reach_walk.proofs.Added.{Adds-next, Adds-none}
use Rattle.reach_walk.proofs.walk_rows.take.Goals as goal

pub returns-then-read_row-clause-adds : goal.returns-then-read_row-clause-adds
returns-then-read_row-clause-adds g c = λ t at.
    let rows = g.R.RowReader.rows c.args.rows.now in
    let things = c.args.seen.now.things in
    let u = c.at-thing.result in
    let now = c.see_owner.new.self.things in
    let it : u ≡ t = cc (c.at-thing.ensures, at) in
    let found : thing_row rows u ≡ Some c.read_row.new.row = c.read_row.ensures.row ∙ ap (λ b. cond b (Some c.read_row.new.row) None) c.if-read_row.true in
    let values : c.as_slice.result.now ≡ row_edges rows t = c.as_slice.ensures.value ∙ ap (λ r. unwrap_or r []) (sym found) ∙ ap (row_edges rows) it in
    let owner = subst (λ a. Adds (Actor a ∷ []) things now) c.owner.ensures c.in_ok-see_owner.ensures.adds in
    on_ok_weaker c.look_all.result (Adds-next (row_edges rows) t u c.as_slice.result.now things now c.look_all.new.seen.things it values owner) c.look_all.ensures.adds

pub returns-else-read_row-clause-adds : goal.returns-else-read_row-clause-adds
returns-else-read_row-clause-adds g c = λ t at.
    let rows = g.R.RowReader.rows c.args.rows.now in
    let things = c.args.seen.now.things in
    let u = c.at-thing.result in
    let now = c.see_owner.new.self.things in
    let it : u ≡ t = cc (c.at-thing.ensures, at) in
    let none : thing_row rows u ≡ None = c.read_row.ensures.row ∙ ap (λ b. cond b (Some c.read_row.new.row) None) c.if-read_row.false in
    let values : [] ≡ row_edges rows t = ap (λ r. unwrap_or r []) (sym none) ∙ ap (row_edges rows) it in
    let owner = subst (λ a. Adds (Actor a ∷ []) things now) c.owner.ensures c.in_ok-see_owner.ensures.adds in
    Adds-next (row_edges rows) t u [] things now now it values owner (Adds-none now)
