use Rattle.std.proofs.Common.{sym, ◌∙◌}
use Rattle.behaviour_text.proofs.FirstWords.{among_operations}
use Rattle.behaviour_text.proofs.table.look_up.Goals as goal

pub returns-else-is_spelled-3 : goal.returns-else-is_spelled-3
returns-else-is_spelled-3 c =
    c.instr_word.ensures
    ∙ among_operations c.args.text.now (sym c.is_spelled.ensures ∙ c.if-is_spelled.false)
    (sym c.is_spelled-else-is_spelled.ensures ∙ c.if-is_spelled-2.false) (sym c.is_spelled-else-is_spelled-2.ensures ∙ c.if-is_spelled-3.false)
