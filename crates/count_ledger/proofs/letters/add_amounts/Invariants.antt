use Rattle.std.proofs.Common.{◌≡◌, map, take}
use Rattle.letter_kinds.specs.Sums.{amount_of}
use Rattle.count_ledger.specs.Lines.{own_only, raised_by}
use Rattle.count_ledger.proofs.letters.add_amounts.Given as goal

abbrev pub invariant-loop-amount : goal.invariant-loop-amount
invariant-loop-amount l =
    l.sums
    ≡ map (raised_by l.column (own_only l.owner (λ x. amount_of x (take l.amount-index l.things)))) l.fn.sums
