use Rattle.std.proofs.Common.{Box, Global, rules, subst, ◌≡◌}
use Rattle.std.specs.Box.{with_value}
use Rattle.actor_cell.specs.declared.found.Found.{Found}
use Rattle.seat_hall.specs.Found.{IsFoundOn}
use Rattle.seat_hall.proofs.task.SeatTask.evaluate.Goals as goal

pub invariant_of-self-2 : goal.invariant_of-self-2
invariant_of-self-2 c = record {
  own = λ x is.
      let same : with_value c.match-take.place c.find_in.new.found ≡ x = cc in
      subst (λ (b : Box Found Global). IsFoundOn c.args.self.now.taken b.value) same (search rules);
}
