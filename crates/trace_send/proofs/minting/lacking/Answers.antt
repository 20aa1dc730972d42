use Rattle.std.proofs.Common.{◌==◌, map, ◌∙◌, ap}
use Rattle.std.specs.List.{filter}
use Rattle.orca_names.specs.Names.{owner_of}
use Rattle.orca_names.specs.declared.names.Thing.{Thing}
use Rattle.letter_kinds.specs.Counting.{Amount}
use Rattle.trace_send.specs.Lacking.{is_lacked, of_first_owner}
use Rattle.trace_send.proofs.First.{answers_first, answers_none, filter-and, lacking-is}
use Rattle.trace_send.proofs.minting.lacking.Goals as goal

pub returns-in_ok-amounts-in-Some : goal.returns-in_ok-amounts-in-Some
returns-in_ok-amounts-in-Some c = λ count heap.
    let things = c.args.things.now in
    let me = c.args.me in
    let foreign = c.args.foreign.now in
    let owner = c.in-Some.owner in
    let amount : Thing → Amount = λ x. (x, c.args.weight) in
    let its = c.in_ok-amounts-in-Some.ensures
    ∙ ap (map amount) (filter-and (is_lacked me foreign) (λ (x : Thing). owner_of x == owner) things)
    in
    answers_first c.args.weight (filter (is_lacked me foreign) things) owner c.in_ok-amounts-in-Some.amounts c.in-Some.ensures its
    ∙ ap (of_first_owner c.args.weight) (lacking-is me count heap foreign things)

pub returns-in-None : goal.returns-in-None
returns-in-None c = λ count heap.
    let things = c.args.things.now in
    let me = c.args.me in
    let foreign = c.args.foreign.now in
    answers_none c.args.weight (filter (is_lacked me foreign) things) c.in-None.ensures
    ∙ ap (of_first_owner c.args.weight) (lacking-is me count heap foreign things)
