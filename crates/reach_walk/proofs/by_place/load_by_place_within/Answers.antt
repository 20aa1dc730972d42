use Rattle.std.proofs.Common.{◌≡◌, ◌≢◌, length, refl, sym, ap, subst, ◌∙◌, arith}
use Rattle.std.proofs.lemmas.Bool.{true≢false}
use Rattle.row_store.specs.Told.{lie_as, thing_lies}
use Rattle.reach_walk.specs.Met.{HasReached}
use Rattle.reach_walk.specs.Reach.{named_by, row_edges, AreReached}
use Rattle.reach_walk.proofs.ByPlaces.{has_unplaced, is_load, none_unplaced, queued_marks}
use Rattle.reach_walk.proofs.by_place.load_by_place_within.Goals as goal

pub returns-clause-load : goal.returns-clause-load
returns-clause-load g c =
    let rows = c.args.rows.now in
    let its = g.R.BlockRows.rows rows in
    let found = c.in_ok-met.ensures.reached in
    let noted = c.in_ok-met.met.noted in
    let none : length noted.others.keys ≡ 0 = c.if-not-is_empty.ensures.0 refl in
    let reached = subst (λ args. AreReached (row_edges its) (named_by args) found.0) c.as_slice.ensures.value found.2 in
    let blocks = g.R.BlockRows.blocks rows in
    ap (lie_as its) c.from.ensures ∙ is_load its (g.R.BlockRows.all rows) c.args.args.now (g.R.BlockRows.within rows) (g.R.Places.place rows) (g.R.Places.count rows) noted found.0 found.1.tells.told reached (thing_lies its blocks) (lie_as its c.in_ok-load.load.items) none c.in_ok-load.ensures

pub returns-clause-none : goal.returns-clause-none
returns-clause-none g c =
    let rows = c.args.rows.now in
    let its = g.R.BlockRows.rows rows in
    let found = c.in_ok-met.ensures.reached in
    let noted = c.in_ok-met.met.noted in
    let none : length noted.others.keys ≡ 0 = c.if-not-is_empty.ensures.0 refl in
    let reached = subst (λ args. AreReached (row_edges its) (named_by args) found.0) c.as_slice.ensures.value found.2 in (
      λ e. absurd (true≢false e),
      λ some. absurd (none_unplaced its (g.R.BlockRows.all rows) c.args.args.now (g.R.BlockRows.within rows) (g.R.Places.place rows) (g.R.Places.count rows) noted found.0 found.1.tells.told reached none some),
    )

pub returns-then-not-is_empty-clause-none : goal.returns-then-not-is_empty-clause-none
returns-then-not-is_empty-clause-none g c =
    let rows = c.args.rows.now in
    let its = g.R.BlockRows.rows rows in
    let found = c.in_ok-met.ensures.reached in
    let noted = c.in_ok-met.met.noted in
    let some : length noted.others.keys ≢ 0 = λ none. true≢false (sym (c.if-not-is_empty.ensures.1 none)) in
    let reached = subst (λ args. AreReached (row_edges its) (named_by args) found.0) c.as_slice.ensures.value found.2 in (
      λ _. has_unplaced its (g.R.BlockRows.all rows) c.args.args.now (g.R.BlockRows.within rows) (g.R.Places.place rows) (g.R.Places.count rows) noted found.0 found.1.tells.told reached some,
      λ _. refl,
    )

pub returns-clause-steps : goal.returns-clause-steps
returns-clause-steps g c =
    let rows = c.args.rows.now in
    let its = g.R.BlockRows.rows rows in
    let place = g.R.Places.place rows in
    let count = g.R.Places.count rows in
    let found = subst (λ args. HasReached place count its args c.in_ok-met.met) c.as_slice.ensures.value c.in_ok-met.ensures.reached in
    let few = queued_marks its (g.R.BlockRows.all rows) c.args.args.now (g.R.BlockRows.within rows) place count c.in_ok-met.met found in
    omega (arith, few, c.in_ok-met.ensures.steps, ap length c.as_slice.ensures.value)

pub returns-then-not-is_empty-clause-steps : goal.returns-then-not-is_empty-clause-steps
returns-then-not-is_empty-clause-steps g c =
    let rows = c.args.rows.now in
    let its = g.R.BlockRows.rows rows in
    let place = g.R.Places.place rows in
    let count = g.R.Places.count rows in
    let found = subst (λ args. HasReached place count its args c.in_ok-met.met) c.as_slice.ensures.value c.in_ok-met.ensures.reached in
    let few = queued_marks its (g.R.BlockRows.all rows) c.args.args.now (g.R.BlockRows.within rows) place count c.in_ok-met.met found in
    omega (arith, few, c.in_ok-met.ensures.steps, ap length c.as_slice.ensures.value)
