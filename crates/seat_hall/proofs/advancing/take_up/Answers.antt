use Rattle.std.proofs.Common.{◌≡◌, ap, sym, subst, ◌∙◌}
use Rattle.turn_log.specs.Seats.{knows}
use Rattle.seat_hall.specs.Advances.{Reckons}
use Rattle.seat_hall.specs.Fair.{Knower}
use Rattle.seat_hall.proofs.Advances.{up_turns, went_up}
use Rattle.seat_hall.proofs.Under.{reckons_at}
use Rattle.seat_hall.proofs.advancing.take_up.Goals as goal

pub take_on-took-requires : goal.take_on-took-requires
take_on-took-requires g c =
    let n = c.args.number in let old = c.args.seat.now in let mid = c.turn-hall.new.seat in
    let turn = c.turn-hall.ensures in let put = c.put.ensures.same in record {
      own = put.0.0 ∙ turn.holds.own;
      lying = c.turn-hall.result;
      turn = (turn.holds.turn.0, ap (λ v. v.stage) put.1 ∙ turn.holds.turn.1);
      lies = c.put.ensures.full;
      reckons = subst (λ (k : Knower). Reckons n k c.turn-hall.result) (ap (λ v. v.known) (sym put.1))
          (reckons_at n old mid c.turn-hall.result turn.at turn.heard);
    }

pub returns : goal.returns
returns g c =
    let n = c.args.number in let a = c.args.a in let old = c.args.seat.now in let mid = c.turn-hall.new.seat in
    let h = c.turn-hall.result in let turn = c.turn-hall.ensures in
    let put = c.put.ensures.same in let one = c.put.new.seat in let two = c.take_on-took.new.seat in let new = c.claim_on.new.seat in
    let took = c.take_on-took.ensures in let claims = c.claim_on.ensures in
    let still : knows one ≡ knows mid = ap (λ v. v.known) put.1 in
    let begins = subst (λ (k : Knower). Reckons n k h) (sym still) (reckons_at n old mid h turn.at turn.heard) in
    let w = went_up n a old mid one two new h turn.at still begins c.take_on-took.result took.took_is
    took.under.lying took.under.reckons c.claim_on.new.next claims.claimed in
    let turns = up_turns n a old mid one two new h turn.at still begins c.take_on-took.result took.took_is
    took.under.lying took.under.reckons c.claim_on.new.next claims.claimed turn.turns in record {
      stays = record {
        stays = record {
          same = (
            claims.same.0 ∙ (took.same.0 ∙ (put.0.0 ∙ turn.same.0)),
            claims.same.1 ∙ (took.same.1 ∙ (put.0.1 ∙ turn.same.1)),
          );
          pass_is = claims.pass_is;
          client = w.client;
          turns_had = turns;
        };
        cells = w.cells;
      };
      claim = w.next_is;
      none = w.none;
      calls = w.calls;
    }
