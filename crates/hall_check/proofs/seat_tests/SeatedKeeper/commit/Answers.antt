use Rattle.std.proofs.Common.{◌≡◌, ◌+◌, ◌∙◌, subst, sym}
use Rattle.seat_hall.specs.Boards.{PassValue, out_of}
use Rattle.hall_check.proofs.Keeping.{gives_up}
use Rattle.hall_check.proofs.seat_tests.SeatedKeeper.commit.Goals as goal

pub invariant_of-self-2 : goal.invariant_of-self-2
invariant_of-self-2 g c =
    let old = c.args.self.now in
    let new = c.commit.new.self in
    record {
      own = gives_up old.pass new old.kept c.take.new.self c.in-Some.task (sym c.take.ensures.value ∙ c.in-Some.is) c.take.ensures.after
          (subst (λ (p : PassValue). out_of p ≡ out_of new + 1) c.propose.ensures.same c.commit.ensures.less) old.own;
    }
