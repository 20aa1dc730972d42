use Rattle.hall_check.proofs.Keeping.{keeps_on}
use Rattle.hall_check.proofs.seat_tests.SeatedKeeper.look.Goals as goal

pub invariant_of-self : goal.invariant_of-self
invariant_of-self g c =
    let old = c.args.self.now in
    let told = c.look.ensures in
    record { own = keeps_on 1 old.pass c.look.new.self old.kept told.stays told.out old.own }
