use Rattle.std.proofs.Common.{◌≡◌, ◌++◌, map, flat_map, take, string_bytes}
use Rattle.behaviour_code.specs.Names.{text_of}
use Rattle.behaviour_text.specs.Text.{instr_words, line_of}
use Rattle.behaviour_text.proofs.printing.push_body.Given as goal

abbrev pub invariant-loop-instr : goal.invariant-loop-instr
invariant-loop-instr l = string_bytes l.out ≡ string_bytes l.fn.out ++ flat_map line_of (map (instr_words (text_of l.names)) (take l.instr-index l.body))
