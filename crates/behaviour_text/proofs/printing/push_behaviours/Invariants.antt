use Rattle.std.proofs.Common.{◌≡◌, ◌++◌, flat_map, take, string_bytes}
use Rattle.behaviour_text.specs.Text.{behaviour_lines, line_of}
use Rattle.behaviour_code.specs.Names.{text_of}
use Rattle.behaviour_text.proofs.printing.push_behaviours.Given as goal

abbrev pub invariant-loop-behaviour : goal.invariant-loop-behaviour
invariant-loop-behaviour l = string_bytes l.out ≡ string_bytes l.fn.out ++ flat_map line_of (flat_map (behaviour_lines (text_of l.names)) (take l.behaviour-index l.behaviours))
