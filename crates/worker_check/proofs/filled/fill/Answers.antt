use Rattle.std.proofs.Common.{rules, ◌<◌, arith, ap, ◌∙◌}
use Rattle.worker_check.proofs.Filling.{may_look, may_write, put_last}
use Rattle.worker_check.proofs.filled.fill.Goals as goal

pub take_turn-count-requires-clause-look : goal.take_turn-count-requires-clause-look
take_turn-count-requires-clause-look g c = may_look

pub write-requires-clause-rule : goal.write-requires-clause-rule
write-requires-clause-rule g c =
    let count = c.take_turn-count.result in
    let turn = c.take_turn-count.ensures.turn.0 in
    let less : count < 64 = omega arith in
    let put = ap (λ v. v.puts) c.put-2.ensures.same.1 ∙ (ap (λ m. m.0.puts) c.read_word-word.ensures.same.1 ∙ c.put_word.ensures.puts) in record {
      before = count;
      value = _;
      turn = (turn.0, ap (λ v. v.stage) c.put-2.ensures.same.1 ∙ (ap (λ m. m.0.stage) c.read_word-word.ensures.same.1 ∙ (c.put_word.ensures.same.2 ∙ turn.1)));
      lies = c.put-2.ensures.full;
      may_have = search rules;
      rule = may_write _ _ _ count _ (omega arith) less (put_last _ _ count _ put);
    }

pub pass_on-requires-2-clause-turn : goal.pass_on-requires-2-clause-turn
pass_on-requires-2-clause-turn g c =
    let wrote = c.write.ensures.wrote _ c.put-2.ensures.full in
    (_, wrote.0, c.write.ensures.same.1 ∙ c.put-2.ensures.full)

pub returns-clause-idle : goal.returns-clause-idle
returns-clause-idle g c = let wrote = c.write.ensures.wrote _ c.put-2.ensures.full in search rules
