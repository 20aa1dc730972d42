use Rattle.std.proofs.Common.{◌≡◌, ◌++◌, drop, map, string_bytes}
use Rattle.picture_rules.specs.Pictures.{print_line}
use Rattle.picture_rules.specs.Words.{text_of_lines}
use Rattle.book_picture.proofs.entries.push_prints.Given as goal

abbrev pub invariant-loop-i : goal.invariant-loop-i
invariant-loop-i l =
    string_bytes l.out ++ text_of_lines (map print_line (drop l.i l.values))
    ≡ string_bytes l.fn.out ++ text_of_lines (map print_line (drop l.from l.values))
