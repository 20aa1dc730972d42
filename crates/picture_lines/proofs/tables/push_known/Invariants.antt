use Rattle.std.proofs.Common.{◌≡◌, ◌++◌, ◌∷◌, map, take, string_bytes}
use Rattle.std.specs.Prelude.{codes}
use Rattle.std.specs.FinMap as m
use Rattle.row_table.specs.Table.{row_in, uncounted}
use Rattle.picture_rules.specs.Words.{text_of_lines, thing_word, value_words}
use Rattle.picture_lines.proofs.tables.push_known.Given as goal

abbrev pub invariant-loop-i : goal.invariant-loop-i
invariant-loop-i l =
    string_bytes l.out ≡ string_bytes l.fn.out
    ++ text_of_lines (map (λ e. codes "knows" ∷ thing_word e.0 ∷ value_words (row_in e.1)) (take l.i (m.entries (uncounted l.known.rows))))
