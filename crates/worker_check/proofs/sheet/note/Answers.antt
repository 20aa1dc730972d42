use Rattle.std.proofs.Common.{List, ℕ, rules, ◌≡◌, ◌∷◌, ◌++◌, [], sym, ap, ◌∙◌}
use Rattle.turn_log.specs.Seats.{knows}
use Rattle.turn_log.proofs.Shares.{may_look, may_write}
use Rattle.worker_check.proofs.sheet.note.Goals as goal

pub take_turn-sheet-requires-clause-look : goal.take_turn-sheet-requires-clause-look
take_turn-sheet-requires-clause-look g c = may_look (λ (s : List ℕ × ℕ). s.0)

pub write-requires-clause-rule : goal.write-requires-clause-rule
write-requires-clause-rule g c =
    let turn = c.take_turn-sheet.ensures.turn.0 in
    let sheet = c.take_turn-sheet.result in
    let written = c.add.new.self in
    let added : written ≡ (sheet.0 ++ c.args.number ∷ [], c.args.number) = search rules in record {
      before = sheet;
      value = written;
      turn = (turn.0, ap (λ v. v.stage) c.put.ensures.same.1 ∙ turn.1);
      lies = c.put.ensures.full;
      may_have = search rules;
      rule = may_write (λ (s : List ℕ × ℕ). s.0) _ _ _ sheet written written.1
          (ap (λ s. s.0) added ∙ ap (λ n. sheet.0 ++ n ∷ []) (ap (λ s. s.1) (sym added)));
    }

pub pass_on-requires-clause-turn : goal.pass_on-requires-clause-turn
pass_on-requires-clause-turn g c =
    let wrote = c.write.ensures.wrote c.add.new.self c.put.ensures.full in
    (c.add.new.self, wrote.0, c.write.ensures.same.1 ∙ c.put.ensures.full)

pub pass_on-requires-in-Err-clause-turn : goal.pass_on-requires-in-Err-clause-turn
pass_on-requires-in-Err-clause-turn g c =
    let turn = c.take_turn-sheet.ensures.turn.0 in
    let sheet = c.take_turn-sheet.result in
    (sheet, (turn.0, ap (λ v. v.stage) c.put-in-Err.ensures.same.1 ∙ turn.1), search rules)

pub returns-in-Ok-clause-idle : goal.returns-in-Ok-clause-idle
returns-in-Ok-clause-idle g c = let wrote = c.write.ensures.wrote c.add.new.self c.put.ensures.full in search rules

pub returns-in-Ok-clause-turns : goal.returns-in-Ok-clause-turns
returns-in-Ok-clause-turns g c = let wrote = c.write.ensures.wrote c.add.new.self c.put.ensures.full in search rules

pub returns-in-Ok-clause-written : goal.returns-in-Ok-clause-written
returns-in-Ok-clause-written g c =
    let wrote = c.write.ensures.wrote c.add.new.self c.put.ensures.full in
    ((knows c.take_turn-sheet.new.seat).seen, c.take_turn-sheet.ensures.learns.saw, search rules)
