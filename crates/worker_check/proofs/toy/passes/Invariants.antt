use Rattle.std.proofs.Common.{◌≡◌, All}
use Rattle.worker_check.proofs.toy.passes.Given as goal

abbrev pub invariant-loop-number : goal.invariant-loop-number
invariant-loop-number l = All (λ b. b.out ≡ 0) l.boards.items
