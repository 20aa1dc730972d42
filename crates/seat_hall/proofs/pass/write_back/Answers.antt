use Rattle.std.proofs.Common.{arith, ℕ, List, ◌≤◌, length, sym, ap, ◌∙◌, subst}
use Rattle.turn_log.specs.Seats.{knows}
use Rattle.seat_hall.proofs.Keeps.{own_client}
use Rattle.seat_hall.proofs.pass.write_back.Goals as goal

pub pass_on-requires-clause-turn : goal.pass_on-requires-clause-turn
pass_on-requires-clause-turn c = (c.args.hall, c.write_item.ensures.turn, c.write_item.ensures.lies)

pub pass_on-requires-clause-calm : goal.pass_on-requires-clause-calm
pass_on-requires-clause-calm c =
    let client = own_client c.args.number c.args.hall.last (knows c.args.seat.now).client c.requires.may.own in
    subst (λ (ns : List ℕ). length ns ≤ 1)
    (sym (ap (λ k. k.client.numbers) c.write_item.ensures.knew ∙ (ap (λ v. v.numbers) client ∙ c.requires.may.follows.number))) (omega arith)

pub returns : goal.returns
returns c =
    let put = c.write_item.ensures in let on = c.pass_on.ensures in
    let client = own_client c.args.number c.args.hall.last (knows c.args.seat.now).client c.requires.may.own in record {
      same = (on.same.0 ∙ put.same.0, on.same.1 ∙ put.same.1);
      pass_is = (
        on.idle.0,
        ap (λ k. k.client.numbers) (on.idle.1 ∙ put.knew) ∙ (ap (λ v. v.numbers) client ∙ c.requires.may.follows.number),
      );
      knew = on.idle.1 ∙ put.knew;
    }
