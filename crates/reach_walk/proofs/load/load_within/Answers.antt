use Rattle.std.proofs.Common.{◌≡◌, length, map, ap, sym, ◌∙◌, arith}
use Rattle.std.proofs.lemmas.List.{length-map}
use Rattle.std.proofs.lemmas.Result.{IfOk-weaker}
use Rattle.orca_names.specs.declared.names.Thing.{Thing}
use Rattle.row_store.specs.Told.{Lying, lie_as, lies_as, thing_lies}
use Rattle.reach_walk.specs.Marks.{load_lying, marks_of}
use Rattle.reach_walk.specs.Reach.{named_by}
use Rattle.reach_walk.proofs.Distinct.{length-in_order}
use Rattle.reach_walk.proofs.Found.{marks-listed}
use Rattle.reach_walk.proofs.Nothing.{load_lying-nothing}
use Rattle.reach_walk.proofs.load.load_within.Goals as goal

pub returns-clause-load : goal.returns-clause-load
returns-clause-load g c =
    let rows = c.args.rows.now in
    let its = g.R.RowReader.rows rows in
    let all = g.R.RowReader.all rows in
    let blocks = g.R.TellsRows.blocks rows in
    let walked = c.walk_rows.ensures.rows in
    let same = g.met.R.TellsRows.same_blocks rows c.walk_rows.new.rows walked.2 in
    let sorted = c.sort.new.self.things in
    let marks : c.as_slice-3.result.now ≡ marks_of its all c.args.args.now =
    c.as_slice-3.ensures
    ∙ marks-listed its all c.as_slice-2.result.now (g.met.R.RowReader.within rows) c.walk_rows.new.seen.things sorted
    c.in_ok-walk_rows.ensures.reached c.in_ok-sort.ensures.same c.in_ok-sort.ensures.rising
    ∙ ap (marks_of its all) c.as_slice-2.ensures.value
    in
    IfOk-weaker c.with_rows.result _ (λ load. lie_as its load ≡ load_lying its blocks all c.args.args.now)
    (λ load e. (λ i. lie_as (sym walked.0 i) load) ∙ e ∙ (λ i. map (λ x. (x, thing_lies (walked.0 i) (same i) x)) (marks i))) c.with_rows.ensures.load

pub returns-clause-steps : goal.returns-clause-steps
returns-clause-steps g c =
    let its = g.R.RowReader.rows c.walk_rows.new.rows in
    let blocks = g.R.TellsRows.blocks c.walk_rows.new.rows in
    let things = c.walk_rows.new.seen.things in
    let sorted = c.sort.new.self.things in
    let same = c.in_ok-sort.ensures.same in
    let many = length-in_order things sorted c.in_ok-walk_rows.ensures.seen.once c.in_ok-sort.ensures.rising (λ x h. (same x).1 h) (λ x h. (same x).0 h) in
    let slice : length c.as_slice-3.result.now ≡ length sorted = ap length c.as_slice-3.ensures in
    IfOk-weaker c.with_rows.result _ _
    (λ load e. omega (arith, ap length e, length-map load (lies_as its), length-map {B = Thing × Lying} c.as_slice-3.result.now (λ x. (x, thing_lies its blocks x)), slice, many, c.in_ok-walk_rows.ensures.steps, c.as_slice-2.ensures.room))
    c.with_rows.ensures.load

pub returns-then-names_nothing-clause-load : goal.returns-then-names_nothing-clause-load
returns-then-names_nothing-clause-load g c =
    let rows = c.args.rows.now in
    let its = g.R.RowReader.rows rows in
    let none = ap named_by (sym c.as_slice.ensures.value) ∙ c.names_nothing.ensures.0 c.if-names_nothing.true in
    ap (lie_as its) c.new.ensures
    ∙ sym (load_lying-nothing its (g.R.TellsRows.blocks rows) (g.R.RowReader.all rows) c.args.args.now none)

pub returns-clause-nothing : goal.returns-clause-nothing
returns-clause-nothing g c = λ none.
    let told = c.names_nothing.ensures.1 (ap named_by c.as_slice.ensures.value ∙ none) in
    let not_told = c.if-names_nothing.false in
    cc
