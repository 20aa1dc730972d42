use Rattle.std.proofs.Common.{arith, ℕ, List, ◌≤◌, length, min, sym, ap, ◌∙◌, subst}
use Rattle.turn_log.specs.Knowing.{having_written}
use Rattle.turn_log.specs.Seats.{knows}
use Rattle.seat_hall.specs.Fair.{Follows, after_item}
use Rattle.seat_hall.proofs.Keeps.{may_write_own, own_client}
use Rattle.seat_hall.proofs.pass.write_item.Goals as goal

pub write-requires-clause-rule : goal.write-requires-clause-rule
write-requires-clause-rule c =
    let same = c.put.ensures.same.1 in
    let before = c.requires.holds.0 in let turn = c.requires.holds.1.turn in
    let hall = c.args.hall in let own = c.requires.may.own in
    let follows = subst (λ v. Follows c.args.number hall.last v.known hall) (sym same) c.requires.may.follows in
    let client = own_client c.args.number hall.last (knows c.put.new.seat).client own in record {
      before = before;
      value = hall;
      turn = (turn.0, ap (λ v. v.stage) same ∙ turn.1);
      lies = c.put.ensures.full;
      may_have = subst (λ (ns : List ℕ). 1 ≤ min 1 (length ns)) (sym (ap (λ v. v.numbers) client ∙ follows.number)) (omega arith);
      rule = may_write_own c.put.new.seat.id c.args.number hall.last (knows c.put.new.seat) _ before hall own follows;
    }

pub returns : goal.returns
returns c =
    let put = c.put.ensures.same in let same = c.write.ensures.same in
    let wrote = c.write.ensures.wrote c.args.hall c.put.ensures.full in record {
      same = (same.0.0 ∙ put.0.0, same.0.1 ∙ put.0.1);
      turn = wrote.0;
      lies = same.1 ∙ c.put.ensures.full;
      knew = wrote.1 ∙ ap (λ v. having_written after_item c.args.hall.last v.known) put.1;
    }
