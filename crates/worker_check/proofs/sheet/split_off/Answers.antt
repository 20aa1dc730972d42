use Rattle.std.proofs.Common.{List, ℕ, rules, ◌≤◌, ap, ◌∙◌}
use Rattle.turn_log.specs.Seats.{knows}
use Rattle.turn_log.proofs.Shares.{may_look, may_split}
use Rattle.worker_check.proofs.sheet.split_off.Goals as goal

pub take_turn-sheet-requires-clause-look : goal.take_turn-sheet-requires-clause-look
take_turn-sheet-requires-clause-look g c = may_look (λ (s : List ℕ × ℕ). s.0)

pub split-new-requires-clause-turn : goal.split-new-requires-clause-turn
split-new-requires-clause-turn g c =
    let turn = c.take_turn-sheet.ensures.turn.0 in
    (c.take_turn-sheet.result, (turn.0, ap (λ v. v.stage) c.put.ensures.same.1 ∙ turn.1))

pub split-new-requires-clause-rule : goal.split-new-requires-clause-rule
split-new-requires-clause-rule g c =
    let some : 1 ≤ (knows c.put.new.seat).client = search rules in
    may_split (λ (s : List ℕ × ℕ). s.0) _ _ some

pub pass_on-requires-clause-turn : goal.pass_on-requires-clause-turn
pass_on-requires-clause-turn g c =
    let turn = c.take_turn-sheet.ensures.turn.0 in (
      c.take_turn-sheet.result,
      (turn.0, c.split-new.ensures.same.1 ∙ (ap (λ v. v.stage) c.put.ensures.same.1 ∙ turn.1)),
      c.split-new.ensures.same.2 ∙ c.put.ensures.full,
    )
