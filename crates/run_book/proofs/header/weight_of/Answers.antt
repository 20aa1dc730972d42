use Rattle.std.proofs.Common.{arith, sym, ◌∙◌, ◌<◌, ◌^◌}
use Rattle.std.proofs.lemmas.Fmt.{decimal_injective}
use Rattle.run_book.proofs.header.weight_of.Goals as goal
use Rattle.run_book.proofs.header.weight_of.Goals.{else-number-ge-LEAST_WEIGHT-via-then-number-ge-LEAST_WEIGHT+else-number-le-GREATEST_WEIGHT, else-number-ge-LEAST_WEIGHT-via-else-number-ge-LEAST_WEIGHT}

pub returns-else-number-ge-LEAST_WEIGHT : goal.returns-else-number-ge-LEAST_WEIGHT
returns-else-number-ge-LEAST_WEIGHT c w range spelled =
    let large : c.in-Some.number < 2 ^ 64 = omega arith in
    let same = decimal_injective c.in-Some.number w large (omega (arith, range.1))
    (sym c.in-Some.ensures ∙ spelled) in
    elim c.else-number-ge-LEAST_WEIGHT.branch [
      | else-number-ge-LEAST_WEIGHT-via-then-number-ge-LEAST_WEIGHT+else-number-le-GREATEST_WEIGHT
          w ↦ omega (arith, same, range.1)
      | else-number-ge-LEAST_WEIGHT-via-else-number-ge-LEAST_WEIGHT w ↦ omega (arith, same, range.0)
    ]
