use Rattle.std.proofs.Common.{map, take}
use Rattle.behaviour_text.proofs.Operands.{IsRead}
use Rattle.behaviour_text.proofs.table.put_operands.Given as goal

abbrev pub invariant-loop-i : goal.invariant-loop-i
invariant-loop-i l = IsRead l.operands (take l.i (map (λ w. w.now) l.words)) l.fault l.numbers.items
