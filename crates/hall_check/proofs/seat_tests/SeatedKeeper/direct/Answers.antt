use Rattle.hall_check.proofs.Keeping.{keeps_on}
use Rattle.hall_check.proofs.seat_tests.SeatedKeeper.direct.Goals as goal

pub invariant_of-self : goal.invariant_of-self
invariant_of-self g c =
    let old = c.args.self.now in
    let told = c.direct.ensures in
    record { own = keeps_on 1 old.pass c.direct.new.self old.kept told.stays told.out old.own }
