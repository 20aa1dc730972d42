-- A loop that writes the lines of one element after another.
use Rattle.std.proofs.Common.{◌≡◌, ℕ, ◌+◌, List, [], ◌∷◌, ◌++◌, Some, map, take, length, slice_get, ap, sym, ◌∙◌, append_assoc}
use Rattle.std.specs.Prelude.{flat_map}
use Rattle.std.proofs.lemmas.List.{append-nil, map-append, take_more}
use Rattle.std.proofs.lemmas.Grind.{flat_map-append}
use Rattle.std.proofs.lemmas.Option.{get_or_from_slice_get, slice_get_within}
use Rattle.std.proofs.Math.Seq.{take-length}
use Rattle.behaviour_text.specs.Text.{line_of}
use Rattle.picture_rules.specs.Words.{Line, text_of_lines}

-- the text of lines behind others
pub text-append : (xs ys : List Line) → text_of_lines (xs ++ ys) ≡ text_of_lines xs ++ text_of_lines ys
text-append xs ys = flat_map-append line_of xs ys

-- one element more was gone through
pub one_more : {X : Type 0} (xs : List X) (i : ℕ) (x : X) → slice_get xs i ≡ Some x → take (i + 1) xs ≡ take i xs ++ x ∷ []
one_more xs i x e =
    take_more xs i x (slice_get_within xs i x e) ∙ ap (λ y. take i xs ++ y ∷ []) (get_or_from_slice_get xs i x x e)

-- all were
pub all_taken : {X : Type 0} (xs : List X) (i : ℕ) → i ≡ length xs → take i xs ≡ xs
all_taken xs i e = ap (λ n. take n xs) e ∙ take-length xs

pub line_more : {X : Type 0} (f : X → Line) (xs : List X) (i : ℕ) (x : X) → slice_get xs i ≡ Some x
    → text_of_lines (map f (take (i + 1) xs)) ≡ text_of_lines (map f (take i xs)) ++ line_of (f x)
line_more f xs i x e =
    ap (λ ys. text_of_lines (map f ys)) (one_more xs i x e) ∙ ap text_of_lines (map-append f (take i xs) (x ∷ []))
    ∙ text-append (map f (take i xs)) (f x ∷ []) ∙ ap (λ l. text_of_lines (map f (take i xs)) ++ l) (append-nil (line_of (f x)))

-- a line more of one element more
pub next_line : {X : Type 0} (f : X → Line) (xs : List X) (i : ℕ) (x : X) (old now later : List ℕ) → slice_get xs i ≡ Some x
    → now ≡ old ++ text_of_lines (map f (take i xs)) → later ≡ now ++ line_of (f x)
    → later ≡ old ++ text_of_lines (map f (take (i + 1) xs))
next_line f xs i x old now later e so_far more =
    more ∙ ap (λ t. t ++ line_of (f x)) so_far ∙ append_assoc old (text_of_lines (map f (take i xs))) (line_of (f x))
    ∙ ap (λ t. old ++ t) (sym (line_more f xs i x e))

pub lines_more : {X : Type 0} (f : X → List Line) (xs : List X) (i : ℕ) (x : X) → slice_get xs i ≡ Some x
    → text_of_lines (flat_map f (take (i + 1) xs)) ≡ text_of_lines (flat_map f (take i xs)) ++ text_of_lines (f x)
lines_more f xs i x e =
    ap (λ ys. text_of_lines (flat_map f ys)) (one_more xs i x e) ∙ ap text_of_lines (flat_map-append f (take i xs) (x ∷ []))
    ∙ ap (λ l. text_of_lines (flat_map f (take i xs) ++ l)) (append-nil (f x)) ∙ text-append (flat_map f (take i xs)) (f x)

-- the lines of one element more
pub next_lines : {X : Type 0} (f : X → List Line) (xs : List X) (i : ℕ) (x : X) (old now later : List ℕ) → slice_get xs i ≡ Some x
    → now ≡ old ++ text_of_lines (flat_map f (take i xs)) → later ≡ now ++ text_of_lines (f x)
    → later ≡ old ++ text_of_lines (flat_map f (take (i + 1) xs))
next_lines f xs i x old now later e so_far more =
    more ∙ ap (λ t. t ++ text_of_lines (f x)) so_far ∙ append_assoc old (text_of_lines (flat_map f (take i xs))) (text_of_lines (f x))
    ∙ ap (λ t. old ++ t) (sym (lines_more f xs i x e))
