use Rattle.std.proofs.Common.{◌≡◌, ◌++◌}
use Rattle.std.specs.Prelude.{flat_map}
use Rattle.std.specs.VecDeque.Iter.{deque_iter_rest}
use Rattle.plain_machine.proofs.reach.push_arguments.Given as goal

abbrev pub invariant-loop-letter : goal.invariant-loop-letter
invariant-loop-letter l =
    l.found.items ++ flat_map (λ x. x.args) (deque_iter_rest l.letter-iterator)
    ≡ l.fn.found.items ++ flat_map (λ x. x.args) l.letters
