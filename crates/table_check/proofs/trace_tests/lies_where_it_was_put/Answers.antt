use Rattle.std.proofs.Common.{[], ◌∷◌, refl, subst, sym}
use Rattle.letter_kinds.specs.Load.{HaveGiven}
use Rattle.table_check.proofs.Loads.{one_given}
use Rattle.table_check.proofs.trace_tests.lies_where_it_was_put.Goals as goal

pub comes_to_lie_in-requires : goal.comes_to_lie_in-requires
comes_to_lie_in-requires c =
    let row = c.of-row.result in
    subst (HaveGiven 4 0 (row ∷ [])) (sym c.in_ok-load.ensures) (one_given 4 row _ refl)
