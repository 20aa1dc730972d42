-- Lines of words are told by their text.
use Rattle.std.proofs.Common.{◌≡◌, ◌<◌, ℕ, Bool, true, false, List, [], ◌∷◌, ◌++◌, drop, get_or, length, refl, ap, sym, ◌∙◌, arith, append_assoc, length-append}
use Rattle.behaviour_text.specs.Text.{line_of, rest_of_line}
use Rattle.picture_rules.specs.Words.{Line, Word, text_of_lines}
use Rattle.picture_laws.specs.Alphabet.{is_word_byte}
use Rattle.picture_laws.proofs.Bytes.{AreWords, IsWord, Pass, said}
use Rattle.picture_laws.proofs.Lines.{AreLines}
use Rattle.picture_laws.proofs.Shown.{first_passes, others_pass}

-- a byte that does not pass the test comes first
pub record Ends (p : ℕ → Bool) (r : List ℕ) : Type 0 where
  pub byte : ℕ
  pub rest : List ℕ
  pub is : r ≡ byte ∷ rest
  pub fails : p byte ≡ false

module _ (p : ℕ → Bool) where
  unlike : (a b : ℕ) → a ≡ b → p a ≡ true → p b ≡ false → ⊥
  unlike a b e h k = let x : true ≡ false = sym h ∙ ap p e ∙ k in absurd cc

  -- bytes that pass are told from what is behind them
  pub front_end : (v w r s : List ℕ) → Pass p v → Pass p w → Ends p r → Ends p s → v ++ r ≡ w ++ s → (v ≡ w) × (r ≡ s)
  front_end [] [] r s h k f g e = (refl, e)
  front_end [] (b ∷ w) r s h k f g e =
      absurd (unlike b f.byte (sym (ap (λ l. get_or l 0 0) (sym f.is ∙ e))) (first_passes k) f.fails)
  front_end (a ∷ v) [] r s h k f g e =
      absurd (unlike a g.byte (ap (λ l. get_or l 0 0) (e ∙ g.is)) (first_passes h) g.fails)
  front_end (a ∷ v) (b ∷ w) r s h k f g e =
      let same : a ≡ b = ap (λ l. get_or l 0 0) e in
      let later = front_end v w r s (others_pass h) (others_pass k) f g (ap (drop 1) e) in
      (ap (λ x. x ∷ v) same ∙ ap (λ x. b ∷ x) later.0, later.1)

rest_ends : (ws : Line) (x : List ℕ) → Ends is_word_byte (rest_of_line ws ++ x)
rest_ends [] x = record { byte = 10; rest = x; is = refl; fails = refl }
rest_ends (w ∷ ws) x = record { byte = 32; rest = (w ++ rest_of_line ws) ++ x; is = refl; fails = refl }

words_end : (u w : Word) (us ws : Line) (x y : List ℕ) → IsWord u → IsWord w → (u ++ rest_of_line us) ++ x ≡ (w ++ rest_of_line ws) ++ y
    → (u ≡ w) × (rest_of_line us ++ x ≡ rest_of_line ws ++ y)
words_end u w us ws x y h k e =
    front_end is_word_byte u w (rest_of_line us ++ x) (rest_of_line ws ++ y) h k (rest_ends us x) (rest_ends ws y)
    (sym (append_assoc u (rest_of_line us) x) ∙ e ∙ append_assoc w (rest_of_line ws) y)

rest_apart : (us ws : Line) (x y : List ℕ) → AreWords us → AreWords ws → rest_of_line us ++ x ≡ rest_of_line ws ++ y → (us ≡ ws) × (x ≡ y)
rest_apart [] [] x y h k e = (refl, ap (drop 1) e)
rest_apart [] (w ∷ ws) x y h k e = let z : 10 ≡ 32 = ap (λ l. get_or l 0 0) e in absurd (omega (arith, z))
rest_apart (u ∷ us) [] x y h k e = let z : 32 ≡ 10 = ap (λ l. get_or l 0 0) e in absurd (omega (arith, z))
rest_apart (u ∷ us) (w ∷ ws) x y h k e =
    let first = words_end u w us ws x y (said (first_passes h)) (said (first_passes k)) (ap (drop 1) e) in
    let later = rest_apart us ws x y (others_pass h) (others_pass k) first.1 in
    (ap (λ z. z ∷ us) first.0 ∙ ap (λ z. w ∷ z) later.0, later.1)

rest_some : (ws : Line) → 0 < length (rest_of_line ws)
rest_some [] = omega arith
rest_some (w ∷ ws) = omega arith

line_some : (l : Line) → 0 < length (line_of l)
line_some [] = omega arith
line_some (w ∷ ws) = omega (arith, length-append w (rest_of_line ws), rest_some ws)

pub texts_apart : (xs ys : List Line) → AreLines xs → AreLines ys → text_of_lines xs ≡ text_of_lines ys → xs ≡ ys
texts_apart [] [] h k e = refl
texts_apart [] (m ∷ ys) h k e = absurd (omega (arith, ap length e, line_some m, length-append (line_of m) (text_of_lines ys)))
texts_apart (l ∷ xs) [] h k e = absurd (omega (arith, ap length e, line_some l, length-append (line_of l) (text_of_lines xs)))
texts_apart ([] ∷ xs) (m ∷ ys) h k e = let f = first_passes h in absurd cc
texts_apart ((u ∷ us) ∷ xs) ([] ∷ ys) h k e = let f = first_passes k in absurd cc
texts_apart ((u ∷ us) ∷ xs) ((w ∷ ws) ∷ ys) h k e =
    let left : AreWords (u ∷ us) = said (first_passes h) in
    let right : AreWords (w ∷ ws) = said (first_passes k) in
    let first = words_end u w us ws (text_of_lines xs) (text_of_lines ys) (said (first_passes left)) (said (first_passes right)) e in
    let rest = rest_apart us ws (text_of_lines xs) (text_of_lines ys) (others_pass left) (others_pass right) first.1 in
    let later = texts_apart xs ys (others_pass h) (others_pass k) rest.1 in
    ap (λ z. (z ∷ us) ∷ xs) first.0 ∙ ap (λ z. (w ∷ z) ∷ xs) rest.0 ∙ ap (λ z. (w ∷ ws) ∷ z) later
