use Rattle.std.proofs.Common.{◌≤◌, ℕ, List, length, min, take, drop, arith, sym, ap, ◌∙◌, subst}
use Rattle.seat_hall.proofs.Parting.{may_split}
use Rattle.seat_hall.proofs.seats.part.Goals as goal

pub split-other-requires-clause-live : goal.split-other-requires-clause-live
split-other-requires-clause-live c =
    subst (λ (ns : List ℕ). 1 ≤ min 1 (length (take 1 ns))) (sym c.requires.two) (omega arith)

pub split-other-requires-clause-calm : goal.split-other-requires-clause-calm
split-other-requires-clause-calm c =
    subst (λ (ns : List ℕ). length (drop 1 ns) ≤ 1) (sym c.requires.two) (omega arith)

pub split-other-requires-clause-rule : goal.split-other-requires-clause-rule
split-other-requires-clause-rule c = may_split _ c.args.number c.args.next _ c.requires.two

pub pass_on-requires-clause-calm : goal.pass_on-requires-clause-calm
pass_on-requires-clause-calm c =
    subst (λ (ns : List ℕ). length ns ≤ 1)
    (sym (ap (λ k. k.client.numbers) c.split-other.ensures.left ∙ ap (take 1) c.requires.two)) (omega arith)

pub returns-clause-own : goal.returns-clause-own
returns-clause-own c =
    let on = c.pass_on.ensures in let same = c.split-other.ensures.same.0 in
    let knew = on.idle.1 ∙ c.split-other.ensures.left in record {
      same = (on.same.0 ∙ same.0, on.same.1 ∙ same.1);
      pass_is = (on.idle.0, ap (λ k. k.client.numbers) knew ∙ ap (take 1) c.requires.two);
      knew = knew;
    }
