-- A part that is no more.
use Rattle.std.proofs.Common.{◌≡◌, ◌<◌, Bool, false, List, [], ◌∷◌, length, ap, ◌∙◌, arith, length-append}
use Rattle.std.specs.Prelude.{bytes_eq, if◌then◌else◌}
use Rattle.std.proofs.lemmas.List.{append-nil}
use Rattle.behaviour_text.specs.Text.{line_of, rest_of_line}
use Rattle.picture_rules.specs.Words.{Line, text_of_lines}
use Rattle.picture_rules.specs.Parts.{part_change}

rest_some : (ws : Line) → 0 < length (rest_of_line ws)
rest_some [] = omega arith
rest_some (w ∷ ws) = omega arith

-- a line has a byte
line_some : (l : Line) → 0 < length (line_of l)
line_some [] = omega arith
line_some (w ∷ ws) = omega (arith, length-append w (rest_of_line ws), rest_some ws)

-- where the texts differ and the one after is empty, one line stands in the part's place
pub gone_told : (b a : List Line) (gone : Line) → bytes_eq (text_of_lines b) (text_of_lines a) ≡ false → length (text_of_lines a) ≡ 0
    → text_of_lines (part_change gone b a) ≡ line_of gone
gone_told b [] gone other empty = ap (λ (q : Bool). text_of_lines (if q then [] else gone ∷ [])) other ∙ append-nil (line_of gone)
gone_told b (l ∷ ls) gone other empty = absurd (omega (arith, empty, line_some l, length-append (line_of l) (text_of_lines ls)))
