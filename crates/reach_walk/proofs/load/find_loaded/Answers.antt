use Rattle.std.proofs.Common.{ap, sym, ◌∙◌}
use Rattle.reach_walk.specs.Marks.{marks_of}
use Rattle.reach_walk.specs.Reach.{named_by}
use Rattle.reach_walk.proofs.Found.{marks-listed}
use Rattle.reach_walk.proofs.Nothing.{marks_of-nothing}
use Rattle.reach_walk.proofs.load.find_loaded.Goals as goal

pub returns-clause-things : goal.returns-clause-things
returns-clause-things g c =
    let rows = c.args.rows.now in
    let its = g.R.RowReader.rows rows in
    let all = g.R.RowReader.all rows in
    marks-listed its all c.as_slice-2.result.now (g.met.R.RowReader.within rows) c.walk_freely.new.seen.things c.sort.new.self.things
    c.in_ok-walk_freely.ensures.reached c.in_ok-sort.ensures.same c.in_ok-sort.ensures.rising
    ∙ ap (marks_of its all) c.as_slice-2.ensures.value

pub returns-then-names_nothing-clause-things : goal.returns-then-names_nothing-clause-things
returns-then-names_nothing-clause-things g c =
    let none = ap named_by (sym c.as_slice.ensures.value) ∙ c.names_nothing.ensures.0 c.if-names_nothing.true in
    c.clear.ensures
    ∙ sym (marks_of-nothing (g.R.RowReader.rows c.args.rows.now) (g.R.RowReader.all c.args.rows.now)
    c.args.args.now none)

pub returns-clause-nothing : goal.returns-clause-nothing
returns-clause-nothing g c = λ none.
    let told = c.names_nothing.ensures.1 (ap named_by c.as_slice.ensures.value ∙ none) in
    let not_told = c.if-names_nothing.false in
    cc
