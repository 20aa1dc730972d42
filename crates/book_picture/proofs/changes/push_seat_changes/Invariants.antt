use Rattle.std.proofs.Common.{◌≡◌, ◌++◌, ◌∷◌, [], ℕ, List, map, take, string_bytes}
use Rattle.std.specs.Prelude.{codes, flat_map}
use Rattle.std.specs.Fmt.{decimal}
use Rattle.picture_rules.specs.Parts.{part_change}
use Rattle.picture_rules.specs.Words.{Line, text_of_lines}
use Rattle.book_picture.proofs.changes.push_seat_changes.Given as goal

abbrev pub invariant-loop-i : goal.invariant-loop-i
invariant-loop-i l =
    (b a : ℕ → List Line) → map string_bytes l.before ≡ map (λ x. text_of_lines (b x)) l.actors
    → map string_bytes l.after ≡ map (λ x. text_of_lines (a x)) l.actors
    → string_bytes l.out ≡ string_bytes l.fn.out
    ++ text_of_lines (flat_map (λ x. part_change (codes "gone" ∷ decimal x ∷ []) (b x) (a x)) (take l.i l.actors))
