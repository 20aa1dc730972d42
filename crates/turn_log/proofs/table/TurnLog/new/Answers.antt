use Rattle.std.proofs.Common.{ℕ, rules, sym, subst, ◌≡◌, List, Option, [], ◌∷◌, Some}
use Rattle.atomic_table.specs.Table.{opening}
use Rattle.turn_log.specs.Knowing.{newcomer}
use Rattle.turn_log.specs.Queue.{IsRuled}
use Rattle.turn_log.specs.Seats.{idle}
use Rattle.turn_log.proofs.Closings.{begins}
use Rattle.turn_log.proofs.table.TurnLog.new.Goals as goal

pub new-requires : goal.new-requires
new-requires g c =
    let rule = g.P.LogRule in
    let is : c.push.new.self.items ≡ Some c.args.value ∷ [] = search rules in
    let all : c.as_slice.result.now ≡ 0 ∷ 0 ∷ 0 ∷ c.args.words.now = search rules in
    let about : c.of-about.result.value ≡ c.args.value = search rules in
    subst (λ (z : List (Option g.row.T.Denot) × g.row.T.Denot × List ℕ).
    IsRuled rule.holds rule.live rule.calm (opening z.2 z.0 (idle (newcomer (rule.first z.1)))))
    (λ i. (sym is i, sym about i, sym all i))
    (begins rule.holds rule.live rule.calm c.args.value (rule.first c.args.value) c.args.words.now c.requires.rule c.requires.calm)
