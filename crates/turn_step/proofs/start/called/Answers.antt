use Rattle.std.proofs.Common.{◌≡◌, slice_get, Some, arith, rules}
use Rattle.behaviour_check.proofs.Once.{behaviours_differ}
use Rattle.turn_step.proofs.Guesses.{behaviours_are_few}
use Rattle.turn_step.proofs.start.called.Goals as goal

pub behaviour_place-requires : goal.behaviour_place-requires
behaviour_place-requires c =
    let there : slice_get c.program.result.now.kinds c.args.kind ≡ Some c.in-Some.found.now = search rules in
    record { once = behaviours_differ c.program.result.now c.args.kind c.in-Some.found.now c.program.ensures.kept there }

pub overflow_cast-result : goal.overflow_cast-result
overflow_cast-result c =
    let there : slice_get c.program.result.now.kinds c.args.kind ≡ Some c.in-Some.found.now = search rules in
    let few = behaviours_are_few c.program.result.now c.args.kind c.in-Some.found.now c.program.ensures.kept there in
    omega (arith, few, c.in-Some-behaviour_place.ensures.within)
