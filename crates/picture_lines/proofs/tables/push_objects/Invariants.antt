use Rattle.std.proofs.Common.{◌≡◌, ◌++◌, map, take, string_bytes}
use Rattle.std.specs.FinMap as m
use Rattle.picture_rules.specs.Words.{text_of_lines}
use Rattle.picture_rules.specs.Seats.{object_line}
use Rattle.picture_lines.proofs.tables.push_objects.Given as goal

abbrev pub invariant-loop-i : goal.invariant-loop-i
invariant-loop-i l =
    string_bytes l.out ≡ string_bytes l.fn.out ++ text_of_lines (map object_line (take l.i (m.entries l.heap.rows)))
