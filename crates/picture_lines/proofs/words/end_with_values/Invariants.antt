use Rattle.std.proofs.Common.{◌≡◌, ◌++◌, drop, string_bytes}
use Rattle.behaviour_text.specs.Text.{rest_of_line}
use Rattle.picture_rules.specs.Words.{value_words}
use Rattle.picture_lines.proofs.words.end_with_values.Given as goal

abbrev pub invariant-loop-value : goal.invariant-loop-value
invariant-loop-value l =
    string_bytes l.out ++ rest_of_line (value_words (drop l.value-index l.values)) ≡ string_bytes l.fn.out ++ rest_of_line (value_words l.values)
