use Rattle.std.proofs.Common.{◌≡◌, ◌++◌, drop, map, string_bytes}
use Rattle.picture_rules.specs.Blocked.{note_line}
use Rattle.picture_rules.specs.Words.{text_of_lines}
use Rattle.book_picture.proofs.entries.push_notes.Given as goal

abbrev pub invariant-loop-i : goal.invariant-loop-i
invariant-loop-i l =
    string_bytes l.out ++ text_of_lines (map note_line (drop l.i l.notes.items))
    ≡ string_bytes l.fn.out ++ text_of_lines (map note_line (drop l.from l.notes.items))
