use Rattle.std.proofs.Common.{◌≡◌, ◌++◌, map, drop, string_bytes}
use Rattle.behaviour_text.specs.Text.{register, rest_of_line}
use Rattle.behaviour_text.proofs.printing.push_registers.Given as goal

abbrev pub invariant-loop-number : goal.invariant-loop-number
invariant-loop-number l = string_bytes l.out ++ rest_of_line (map register (drop l.number-index l.registers)) ≡ string_bytes l.fn.out ++ rest_of_line (map register l.registers)
