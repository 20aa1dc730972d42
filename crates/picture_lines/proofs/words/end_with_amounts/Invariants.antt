use Rattle.std.proofs.Common.{◌≡◌, ◌++◌, drop, flat_map, string_bytes}
use Rattle.behaviour_text.specs.Text.{rest_of_line}
use Rattle.picture_rules.specs.Words.{amount_words}
use Rattle.picture_lines.proofs.words.end_with_amounts.Given as goal

abbrev pub invariant-loop-thing : goal.invariant-loop-thing
invariant-loop-thing l =
    string_bytes l.out ++ rest_of_line (flat_map amount_words (drop l.thing-index l.things))
    ≡ string_bytes l.fn.out ++ rest_of_line (flat_map amount_words l.things)
