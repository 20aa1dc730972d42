use Rattle.std.proofs.Common.{arith, ℕ, List, ◌≤◌, length, sym, ap, ◌∙◌, subst}
use Rattle.seat_hall.proofs.pass.give_back.Goals as goal

pub pass_on-requires-clause-turn : goal.pass_on-requires-clause-turn
pass_on-requires-clause-turn c =
    let turn = c.requires.holds.turn in
    (c.args.hall, (turn.0, ap (λ v. v.stage) c.put.ensures.same.1 ∙ turn.1), c.put.ensures.full)

pub pass_on-requires-clause-calm : goal.pass_on-requires-clause-calm
pass_on-requires-clause-calm c =
    subst (λ (ns : List ℕ). length ns ≤ 1)
    (sym (ap (λ v. v.known.client.numbers) c.put.ensures.same.1 ∙ c.requires.number)) (omega arith)

pub returns : goal.returns
returns c =
    let put = c.put.ensures.same in let on = c.pass_on.ensures in
    let knew = on.idle.1 ∙ ap (λ v. v.known) put.1 in record {
      same = (on.same.0 ∙ put.0.0, on.same.1 ∙ put.0.1);
      pass_is = (on.idle.0, ap (λ k. k.client.numbers) knew ∙ c.requires.number);
      knew = knew;
    }
