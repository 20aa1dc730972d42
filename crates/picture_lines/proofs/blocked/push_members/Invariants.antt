use Rattle.std.proofs.Common.{◌≡◌, ◌++◌, map, take, string_bytes}
use Rattle.detector_tokens.specs.Marks.{picked}
use Rattle.picture_rules.specs.Words.{text_of_lines}
use Rattle.picture_rules.specs.Blocked.{member_line}
use Rattle.picture_lines.proofs.blocked.push_members.Given as goal

abbrev pub invariant-loop-i : goal.invariant-loop-i
invariant-loop-i l =
    string_bytes l.out ≡ string_bytes l.fn.out
    ++ text_of_lines (map (member_line (picked l.members l.acked)) (take l.i l.members))
