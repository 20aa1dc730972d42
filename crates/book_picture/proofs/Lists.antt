-- Texts of parts, and lines behind lines.
use Rattle.std.proofs.Common.{◌≡◌, ℕ, ◌<◌, List, [], ◌∷◌, ◌++◌, Some, map, length, get_or, slice_get, ap, sym, refl, ◌∙◌, append_assoc}
use Rattle.std.specs.Option.{option_map, unwrap_or}
use Rattle.std.proofs.lemmas.List.{append-nil}
use Rattle.std.proofs.lemmas.Option.{slice_get-map, slice_get_read}
use Rattle.behaviour_text.specs.Text.{line_of}
use Rattle.picture_rules.specs.Words.{Line, text_of_lines}
use Rattle.picture_lines.proofs.Steps.{text-append}

-- the text at a place is that of the part there
pub text_at : {X : Type 0} (bytes : X → List ℕ) (text_of : ℕ → List ℕ) (texts : List X) (names : List ℕ) (i a : ℕ) (text : X)
    → map bytes texts ≡ map text_of names → slice_get names i ≡ Some a → i < length texts → text ≡ get_or texts i text
    → bytes text ≡ text_of a
text_at bytes text_of texts names i a text same at lt here =
    let is = slice_get_read texts (length texts) i text refl lt here in
    ap (λ o. unwrap_or o [])
    (sym (ap (option_map bytes) is) ∙ sym (slice_get-map bytes texts i) ∙ ap (λ ys. slice_get ys i) same
    ∙ slice_get-map text_of names i ∙ ap (option_map text_of) at)

-- lines behind lines that stand behind something
pub behind : (a b : List Line) (old now later : List ℕ) → now ≡ old ++ text_of_lines a → later ≡ now ++ text_of_lines b → later ≡ old ++ text_of_lines (a ++ b)
behind a b old now later first more =
    more ∙ ap (λ n. n ++ text_of_lines b) first ∙ append_assoc old (text_of_lines a) (text_of_lines b) ∙ ap (λ n. old ++ n) (sym (text-append a b))

-- four after one another
pub four_behind : (a b c d : List Line) (old one two three later : List ℕ) → one ≡ old ++ text_of_lines a → two ≡ one ++ text_of_lines b
    → three ≡ two ++ text_of_lines c → later ≡ three ++ text_of_lines d → later ≡ old ++ text_of_lines (a ++ b ++ c ++ d)
four_behind a b c d old one two three later e f g h =
    behind (a ++ b ++ c) d old three later (behind (a ++ b) c old two three (behind a b old one two e f) g) h

-- one line alone
pub one_behind : (l : Line) (old later : List ℕ) → later ≡ old ++ line_of l → later ≡ old ++ text_of_lines (l ∷ [])
one_behind l old later is = is ∙ ap (λ n. old ++ n) (sym (append-nil (line_of l)))

-- lines behind a first one
pub behind_first : (l : Line) (ls : List Line) (old now later : List ℕ) → now ≡ old ++ line_of l → later ≡ now ++ text_of_lines ls
    → later ≡ old ++ text_of_lines (l ∷ ls)
behind_first l ls old now later first more =
    more ∙ ap (λ n. n ++ text_of_lines ls) first ∙ append_assoc old (line_of l) (text_of_lines ls)
