use Rattle.std.proofs.Common.{◌≡◌, ◌∙◌, ap, false, sym}
use Rattle.std.specs.Option.{is_some}
use Rattle.hall_check.proofs.Keeping.{keeps_on, takes_on}
use Rattle.hall_check.proofs.seat_tests.SeatedKeeper.claim.Goals as goal

pub invariant_of-self : goal.invariant_of-self
invariant_of-self g c =
    let old = c.args.self.now in
    let told = c.in-Ok.ensures in
    let none : is_some old.kept ≡ false = ap is_some (sym c.replace.ensures.value) ∙ (sym c.is_some.ensures ∙ c.if-is_some.false) in
    record {
      own = takes_on old.pass c.claim.new.self old.kept c.replace.new.self c.in-Ok.task none c.replace.ensures.after told.more told.owns old.own;
    }

pub invariant_of-self-in-Err-1 : goal.invariant_of-self-in-Err-1
invariant_of-self-in-Err-1 g c =
    let old = c.args.self.now in
    let told = c.in-Err.ensures in
    record { own = keeps_on 1 old.pass c.claim.new.self old.kept told.stays told.none old.own }
