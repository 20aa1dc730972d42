use Rattle.std.proofs.Common.{rules, ◌≡◌, subst}
use Rattle.seat_hall.specs.Answers.{Tells}
use Rattle.seat_hall.specs.Passes.{GetsTurn}
use Rattle.seat_hall.proofs.Turns.{read_whole, reads}
use Rattle.seat_hall.proofs.pass.look.Goals as goal

pub returns : goal.returns
returns g c =
    let n = c.args.number in let old = c.args.seat.now in let mid = c.turn-hall.new.seat in let new = c.give_back.new.seat in
    let h = c.deref.result.now in let is : c.turn-hall.result ≡ h = search rules in
    let turn = subst (GetsTurn c.args.log.now n old mid) is c.turn-hall.ensures in record {
      stays = read_whole c.args.log.now n old mid new h turn c.give_back.ensures;
      call = reads n old mid new h turn.at c.give_back.ensures.knew (Tells c.look-answer.result) c.look-answer.ensures;
    }
