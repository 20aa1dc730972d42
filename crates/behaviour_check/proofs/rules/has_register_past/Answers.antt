use Rattle.std.proofs.Common.{sym, ◌∙◌}
use Rattle.behaviour_check.proofs.Listed.{past_behind}
use Rattle.behaviour_check.proofs.rules.has_register_past.Goals as goal

pub returns-else-some_operand_past : goal.returns-else-some_operand_past
returns-else-some_operand_past c =
    c.some_past.ensures
    ∙ past_behind c.operands-operands.result c.args.instr.now c.operands-operands.ensures (sym c.some_operand_past.ensures ∙ c.if-some_operand_past.false)
