use Rattle.std.proofs.Common.{◌≡◌, flat_map, take, string_bytes}
use Rattle.behaviour_text.specs.Text.{kind_lines, line_of}
use Rattle.behaviour_code.specs.Names.{text_of}
use Rattle.behaviour_text.proofs.printing.canonical_string.Given as goal

abbrev pub invariant-loop-kind : goal.invariant-loop-kind
invariant-loop-kind l = string_bytes l.out ≡ flat_map line_of (flat_map (kind_lines (text_of l.program.names)) (take l.kind-index l.program.kinds))
