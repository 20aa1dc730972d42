use Rattle.std.proofs.Common.{◌≡◌, arith, ℕ, List, ◌≤◌, length, count_by, sym, ap, ◌∙◌, subst}
use Rattle.turn_log.specs.Seats.{knows}
use Rattle.seat_hall.specs.Fair.{Knower, hall_of}
use Rattle.seat_hall.specs.Passes.{HasIn, is_of}
use Rattle.seat_hall.proofs.Parting.{may_join}
use Rattle.seat_hall.proofs.seats.join.Goals as goal

pub join-requires-clause-rule : goal.join-requires-clause-rule
join-requires-clause-rule c = may_join _ _ _ _

pub join-requires-clause-calm : goal.join-requires-clause-calm
join-requires-clause-calm c =
    (subst (λ (ns : List ℕ). length ns ≤ 1) (sym c.requires.seated.1.1) (omega arith), omega arith)

pub returns-clause-stays : goal.returns-clause-stays
returns-clause-stays c =
    let n = c.args.number in let both = c.join.ensures.both in let client = ap (λ k. k.client) both in record {
      stays = record {
        same = c.join.ensures.same.0;
        pass_is = (c.join.ensures.same.1, ap (λ v. v.numbers) client ∙ c.requires.seated.1.1);
        client = client;
        turns_had = let turns : (knows c.join.new.seat).turns ≡ (knows c.args.seat.now).turns = ap (λ k. k.turns) both in omega arith;
      };
      cells = λ a cell has. subst (λ (k : Knower). HasIn n a cell (hall_of k.client k.seen)) (sym both) has;
      out_is = ap (λ (k : Knower). count_by (is_of n) (hall_of k.client k.seen).claims) both;
    }
