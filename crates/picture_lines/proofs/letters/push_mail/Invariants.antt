use Rattle.std.proofs.Common.{◌≡◌, ◌++◌, flat_map, take, string_bytes}
use Rattle.picture_rules.specs.Words.{text_of_lines}
use Rattle.picture_rules.specs.Seats.{letter_lines}
use Rattle.picture_lines.proofs.letters.push_mail.Given as goal

abbrev pub invariant-loop-i : goal.invariant-loop-i
invariant-loop-i l =
    string_bytes l.out ≡ string_bytes l.fn.out ++ text_of_lines (flat_map (letter_lines l.names) (take l.i l.mail.letters))
