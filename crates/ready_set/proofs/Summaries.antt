-- How the levels follow a write and a new word.
use Rattle.std.proofs.Common.{◌≡◌, ℕ, ◌+◌, ◌*◌, ◌/◌, ◌%◌, ◌<◌, ◌≤◌, inl, inr, Bool, true, false, cond, not, eqb, List, [], ◌∷◌, ◌++◌, length, get_or, set, refl, sym, ap, subst, ◌∙◌, arith}
use Rattle.std.specs.Int.{bit_at}
use Rattle.std.proofs.lemmas.Nat.Bits.{bit_at-zero}
use Rattle.std.proofs.lemmas.Bool.{cases_eq}
use Rattle.std.proofs.lemmas.List.{get_or-set_same, get_or-set_other, length-set, length-append}
use Rattle.ready_set.specs.Levels.{bit, Summarizes, AreLevels}
use Rattle.ready_set.proofs.Words.{Writes, get_or-push_zero, bit-push_zero, bit-set_same, bit-set_other}

cond-not : (b : Bool) → cond {A = ℕ} (not b) 1 0 ≡ cond b 0 1
cond-not true = refl
cond-not false = refl

-- a word is written, and the summary is told of it
Summarizes-set : (summary words : List ℕ) (j word before after : ℕ) → Summarizes summary words → j < length words → Writes summary j before after (not (eqb word 0)) →
    Summarizes (set summary (j / 64) after) (set words j word)
Summarizes-set summary words j word before after s within w = record {
  at = λ k. elim (cases_eq k j) as (λ _. bit (set summary (j / 64) after) k ≡ cond (eqb (get_or (set words j word) k 0) 0) 0 1) [
    | inl e ↦
        ap (bit (set summary (j / 64) after)) e
        ∙ bit-set_same summary j before after _ w
        ∙ cond-not (eqb word 0)
        ∙ ap (λ v. cond (eqb v 0) 0 1) (sym (get_or-set_same words j word 0 within) ∙ ap (λ n. get_or (set words j word) n 0) (sym e))
    | inr e ↦
        bit-set_other summary j before after _ w k e
        ∙ s.at k
        ∙ ap (λ v. cond (eqb v 0) 0 1) (sym (get_or-set_other words j k word 0 e))
  ];
}

-- one bit is written, and each level above is told of the word that holds it
pub AreLevels-set : (words summary : List ℕ) (top a before after before2 after2 after3 : ℕ) (on : Bool) → AreLevels words summary top →
    Writes words a before after on → Writes summary (a / 64) before2 after2 (not (eqb after 0)) → Writes (top ∷ []) (a / 64 / 64) top after3 (not (eqb after2 0)) →
    AreLevels (set words (a / 64) after) (set summary (a / 64 / 64) after2) after3
AreLevels-set words summary top a before after before2 after2 after3 on levels first second third =
    let b = a / 64 in
    let c = b / 64 in
    let top_word : c / 64 ≡ 0 = omega (arith, third.within) in
    record {
      words_within = omega (arith, levels.words_within, length-set words b after, length-set summary c after2);
      summary_within = omega (arith, levels.summary_within, length-set summary c after2);
      words_told = Summarizes-set summary words b after before2 after2 levels.words_told first.within second;
      summary_told = subst (λ k. Summarizes (set (top ∷ []) k after3) (set summary c after2)) top_word
          (Summarizes-set (top ∷ []) summary c after2 top after3 levels.summary_told second.within third);
    }

-- a word of zeros more in the summary
pub levels_wider : (words summary : List ℕ) (top : ℕ) → length summary < 64 → AreLevels words summary top → AreLevels words (summary ++ 0 ∷ []) top
levels_wider words summary top few levels = record {
  words_within = omega (arith, levels.words_within, length-append summary (0 ∷ []));
  summary_within = omega (arith, length-append summary (0 ∷ []));
  words_told = record { at = λ k. bit-push_zero summary k ∙ levels.words_told.at k };
  summary_told = record { at = λ k. levels.summary_told.at k ∙ ap (λ v. cond (eqb v 0) 0 1) (sym (get_or-push_zero summary k)) };
}

-- a word of zeros more, which has a bit in the summary
pub levels_longer : (words summary : List ℕ) (top : ℕ) → length words + 1 ≤ length summary * 64 → AreLevels words summary top → AreLevels (words ++ 0 ∷ []) summary top
levels_longer words summary top room levels = record {
  words_within = omega (arith, length-append words (0 ∷ []));
  summary_within = levels.summary_within;
  words_told = record { at = λ k. levels.words_told.at k ∙ ap (λ v. cond (eqb v 0) 0 1) (sym (get_or-push_zero words k)) };
  summary_told = levels.summary_told;
}

pub bit-zero : (k : ℕ) → bit (0 ∷ []) k ≡ 0
bit-zero k = ap (λ v. bit_at v (k % 64)) (get_or-push_zero [] (k / 64)) ∙ bit_at-zero (k % 64)
