use Rattle.std.proofs.Common.{◌≡◌, map, ap, sym, ◌∙◌}
use Rattle.std.proofs.lemmas.Result.{IfOk-weaker}
use Rattle.row_store.specs.Told.{lie_as, thing_lies}
use Rattle.reach_walk.specs.Marks.{load_lying}
use Rattle.reach_walk.specs.Reach.{named_by}
use Rattle.reach_walk.proofs.Nothing.{load_lying-nothing}
use Rattle.reach_walk.proofs.load.load_of.Goals as goal

pub returns-clause-load : goal.returns-clause-load
returns-clause-load g c =
    let rows = c.args.rows.now in
    let its = g.R.RowReader.rows rows in
    let all = g.R.RowReader.all rows in
    let blocks = g.R.TellsRows.blocks rows in
    let found = c.find_loaded.ensures.rows in
    let same = g.met.R.TellsRows.same_blocks rows c.find_loaded.new.rows found.2 in
    let things = c.as_slice-2.ensures ∙ c.in_ok-find_loaded.ensures.things in
    IfOk-weaker c.with_rows.result _ (λ load. lie_as its load ≡ load_lying its blocks all c.args.args.now)
    (λ load e. (λ i. lie_as (sym found.0 i) load) ∙ e ∙ (λ i. map (λ x. (x, thing_lies (found.0 i) (same i) x)) (things i))) c.with_rows.ensures.load

pub returns-then-names_nothing-clause-load : goal.returns-then-names_nothing-clause-load
returns-then-names_nothing-clause-load g c =
    let rows = c.args.rows.now in
    let its = g.R.RowReader.rows rows in
    let none = ap named_by (sym c.as_slice.ensures.value) ∙ c.names_nothing.ensures.0 c.if-names_nothing.true in
    ap (lie_as its) c.new.ensures
    ∙ sym (load_lying-nothing its (g.R.TellsRows.blocks rows) (g.R.RowReader.all rows) c.args.args.now none)

pub returns-clause-nothing : goal.returns-clause-nothing
returns-clause-nothing g c = λ none.
    let told = c.names_nothing.ensures.1 (ap named_by c.as_slice.ensures.value ∙ none) in
    let not_told = c.if-names_nothing.false in
    cc
