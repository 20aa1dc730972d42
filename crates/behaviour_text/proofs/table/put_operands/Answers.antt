use Rattle.std.proofs.Common.{ap, sym, ◌∙◌, vec_items}
use Rattle.behaviour_text.proofs.Operands.{fit_more, fault_further}
use Rattle.behaviour_text.proofs.table.put_operands.Goals as goal
use Rattle.behaviour_text.proofs.table.put_operands.Goals.{in-Ok+in_ok-push-in-Ok, in-Err}

pub loop-i-preserved : goal.loop-i-preserved
loop-i-preserved c =
    elim c.match-operand_number.branch [
      | in-Ok+in_ok-push-in-Ok w ↦
          let read = fit_more c.args.operands.now c.args.words.now c.loop-i.i _ c.operand_at.result c.loop-i.fault c.loop-i.numbers.items w.in-Ok.number
          c.loop-i-test.true c.operand_at.ensures w.in-Ok.ensures.ok.0 w.in-Ok.ensures.ok.1 c.loop-i.invariant in
          record {
            fault = w.fault-is ∙ read.fault;
            numbers = λ h. ap vec_items w.numbers-is ∙ w.in_ok-push-in-Ok.ensures.items ∙ read.numbers (sym w.fault-is ∙ h);
          }
      | in-Err w ↦
          let read = fault_further c.args.operands.now c.args.words.now c.loop-i.i _ c.operand_at.result c.loop-i.fault c.loop-i.numbers.items w.in-Err.kind
          c.loop-i-test.true c.operand_at.ensures w.in-Err.ensures.fault c.loop-i.invariant in
          record {
            fault = w.fault-is ∙ w.lowest-fault.ensures ∙ read.fault;
            numbers = λ h. ap vec_items w.numbers-is ∙ read.numbers (sym w.lowest-fault.ensures ∙ sym w.fault-is ∙ h);
          }
    ]
