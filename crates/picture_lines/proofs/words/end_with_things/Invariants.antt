use Rattle.std.proofs.Common.{◌≡◌, ◌++◌, drop, map, string_bytes}
use Rattle.behaviour_text.specs.Text.{rest_of_line}
use Rattle.picture_rules.specs.Words.{thing_word}
use Rattle.picture_lines.proofs.words.end_with_things.Given as goal

abbrev pub invariant-loop-loaded : goal.invariant-loop-loaded
invariant-loop-loaded l =
    string_bytes l.out ++ rest_of_line (map (λ x. thing_word x.0) (drop l.loaded-index l.things))
    ≡ string_bytes l.fn.out ++ rest_of_line (map (λ x. thing_word x.0) l.things)
