use Rattle.std.proofs.Common.{◌≡◌, ◌+◌, ◌-◌, subst, arith}
use Rattle.std.specs.Prelude.{slice_range}
use Rattle.row_store.specs.Told.{lie_as, thing_lies}
use Rattle.reach_walk.specs.Dense.{StandFrom}
use Rattle.reach_walk.proofs.Together.{part_stands}
use Rattle.reach_walk.proofs.dense.Dense.run_at.Goals as goal

pub returns-clause-run : goal.returns-clause-run
returns-clause-run c = λ place rows blocks together.
    let dense = c.args.self.now in
    let items = dense.items.now in
    let from = c.args.at - dense.base in
    let end = from + c.min-count.result in
    let at : dense.base + from ≡ c.args.at = omega arith in
    subst (λ k. StandFrom place (thing_lies rows blocks) k (lie_as rows (slice_range items from end))) at (part_stands place rows blocks items dense.base from end (omega (arith, c.min-count.ensures, c.min.ensures, c.if-from-items.false)) together.placed)
