use Rattle.std.proofs.Common.{◌≡◌, ◌==◌, true, false, sym, rules}
use Rattle.turn_step.proofs.Guesses.{behaviour_guessed, no_behaviour_takes, stands_there}
use Rattle.turn_step.proofs.start.behaviour_place.Goals as goal

pub returns-then-takes-clause-value : goal.returns-then-takes-clause-value
returns-then-takes-clause-value c =
    let b = c.in-Some.b.now in
    let found = c.in-Some.ensures.lookup in
    let there = stands_there c.args.behaviours.now c.as_slice-list.result.now c.guess-place.result b c.as_slice-list.ensures found.3.0 found.1 in
    let named : b.name ≡ c.args.name = search rules in
    let fits : (b.parameters == c.args.arguments) ≡ true = search rules in
    sym (behaviour_guessed c.args.behaviours.now c.guess-place.result c.args.name c.args.arguments b c.requires.once there named fits)

pub returns-else-takes-clause-value : goal.returns-else-takes-clause-value
returns-else-takes-clause-value c =
    let b = c.in-Some.b.now in
    let found = c.in-Some.ensures.lookup in
    let there = stands_there c.args.behaviours.now c.as_slice-list.result.now c.guess-place.result b c.as_slice-list.ensures found.3.0 found.1 in
    let named : b.name ≡ c.args.name = search rules in
    let none : (b.parameters == c.args.arguments) ≡ false = search rules in
    sym (no_behaviour_takes c.args.behaviours.now c.guess-place.result c.args.name c.args.arguments b c.requires.once there named none)
