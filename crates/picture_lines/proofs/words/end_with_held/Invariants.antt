use Rattle.std.proofs.Common.{◌≡◌, ◌++◌, drop, flat_map, string_bytes}
use Rattle.behaviour_text.specs.Text.{rest_of_line}
use Rattle.picture_rules.specs.Words.{held_words}
use Rattle.picture_lines.proofs.words.end_with_held.Given as goal

abbrev pub invariant-loop-actor : goal.invariant-loop-actor
invariant-loop-actor l =
    string_bytes l.out ++ rest_of_line (flat_map held_words (drop l.actor-index l.held))
    ≡ string_bytes l.fn.out ++ rest_of_line (flat_map held_words l.held)
