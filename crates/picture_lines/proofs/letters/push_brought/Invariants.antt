use Rattle.std.proofs.Common.{◌≡◌, ◌++◌, map, take, string_bytes}
use Rattle.letter_kinds.specs.Load.{as_loaded}
use Rattle.picture_rules.specs.Words.{text_of_lines}
use Rattle.picture_rules.specs.Seats.{brings_line}
use Rattle.picture_lines.proofs.letters.push_brought.Given as goal

abbrev pub invariant-loop-thing : goal.invariant-loop-thing
invariant-loop-thing l =
    string_bytes l.out ≡ string_bytes l.fn.out ++ text_of_lines (map (λ e. brings_line (as_loaded e)) (take l.thing-index l.rows))
