use Rattle.std.proofs.Common.{◌≤◌, ◌++◌, ◌∷◌, [], ℕ, List, length, min, arith, sym, ap, ◌∙◌, subst}
use Rattle.turn_log.specs.Knowing.{having_written}
use Rattle.turn_log.specs.Owed.{MayWrite}
use Rattle.turn_log.specs.Seats.{has_put, knows}
use Rattle.seat_hall.specs.declared.item.Item.{Item}
use Rattle.seat_hall.specs.declared.item.Item.TheVariants.{Made}
use Rattle.seat_hall.specs.Fair.{Follows, HallRule, after_item, live}
use Rattle.seat_hall.proofs.Keeps.{may_give}
use Rattle.seat_hall.proofs.seats.write_made.Goals as goal

pub write-requires-clause-rule : goal.write-requires-clause-rule
write-requires-clause-rule c =
    let same = c.put.ensures.same.1 in
    let before = c.requires.holds.0 in let turn = c.requires.holds.1.turn in
    let hall = c.args.hall in
    let next = c.args.next in
    let seat = c.put.new.seat in
    let follows = subst (λ v. Follows c.args.number (Made next) v.known hall) (sym same) c.requires.rule in
    let some_number : 1 ≤ live (after_item (Made next) (knows seat).client) =
    subst (λ (ns : List ℕ). 1 ≤ min 1 (length (ns ++ next ∷ []))) (sym follows.number) (omega arith) in record {
      before = before;
      value = hall;
      turn = (turn.0, ap (λ v. v.stage) same ∙ turn.1);
      lies = c.put.ensures.full;
      may_have = subst (λ (i : Item). 1 ≤ live (after_item i (knows seat).client)) (sym follows.last) some_number;
      rule = subst (λ (i : Item). MayWrite HallRule after_item seat.id (knows seat) (has_put seat) before hall i) (sym follows.last)
          (may_give seat.id c.args.number next (knows seat) (has_put seat) before hall follows);
    }

pub returns : goal.returns
returns c =
    let put = c.put.ensures.same in let same = c.write.ensures.same in
    let wrote = c.write.ensures.wrote c.args.hall c.put.ensures.full in record {
      same = (same.0.0 ∙ put.0.0, same.0.1 ∙ put.0.1);
      turn = wrote.0;
      lies = same.1 ∙ c.put.ensures.full;
      knew = wrote.1 ∙ (ap (λ (i : Item). having_written after_item i (knows c.put.new.seat)) c.requires.rule.last
          ∙ ap (λ v. having_written after_item (Made c.args.next) v.known) put.1);
    }
