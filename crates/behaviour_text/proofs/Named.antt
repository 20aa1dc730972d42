-- What is read has its names in order, each once.
use Rattle.behaviour_text.proofs.Steps.{kept, end_read, line_read}
use Rattle.behaviour_text.proofs.Choices.{or_right, option_or_none, filter_first, each_push}
use Rattle.std.proofs.Common.{◌≡◌, ◌≢◌, ℕ, ◌+◌, ◌<◌, ◌||◌, Bool, true, false, cond, not, List, [], ◌∷◌, ◌++◌, length, map, flat_map, filter, refl, ap, sym, ◌∙◌, subst, arith, Option, Some, None, IfSome, Ok, if◌then◌else◌, bytes_eq, slice_index_or, length-append, zero, suc, option_map, inl, inr}
use Rattle.std.specs.List.{AllByRecursion, list_any}
use Rattle.std.proofs.lemmas.Bool.{cases_lt}
use Rattle.std.proofs.lemmas.Slice.Eq.{bytes_eq-Decides}
use Rattle.behaviour_text.proofs.Shapes.{names_are}
use Rattle.behaviour_text.proofs.Reread.{spelled_word}
use Rattle.behaviour_code.specs.WellFormed.{name_in, AreApart, instr_names, body_names, behaviours_names, kinds_names}
use Rattle.behaviour_code.specs.Names.{is_name, with_text}
use Rattle.behaviour_code.specs.declared.code.Behaviour.{Behaviour}
use Rattle.behaviour_code.specs.declared.code.Kind.{Kind}
use Rattle.behaviour_code.specs.declared.instr.Instr.{Instr}
use Rattle.behaviour_text.specs.Faults.{place_fault, word_fault, words_fault}
use Rattle.behaviour_text.specs.Items.{name_place}
use Rattle.behaviour_text.specs.Reading.{place_of, intern_name, with_named, with_word, with_words, read_from}
use Rattle.behaviour_text.specs.Table.{line_word, starts_with, shape_fault}
use Rattle.behaviour_text.specs.Text.{instr_words, behaviour_lines, kind_lines, speaks, said_lines}
use Rattle.behaviour_text.specs.Words.{words_of, word_at}
use Rattle.behaviour_text.specs.declared.reader.Reader.{Reader}
use Rattle.behaviour_text.specs.declared.table.LineWord.{LineWord}
use Rattle.behaviour_text.specs.declared.table.LineWord.TheVariants as W
use Rattle.behaviour_code.specs.declared.instr.Instr.TheVariants as I
use Rattle.behaviour_code.specs.Operands.{opcode_of, operands_in}
use Rattle.behaviour_text.proofs.Instructions.{row_unnamed}
use Rattle.behaviour_text.specs.Text.{operand_word}

any_at : (text : List ℕ) (names : List (List ℕ)) (i : ℕ) → i < length names → slice_index_or names i [] ≡ text → list_any (bytes_eq text) names ≡ true
any_at text [] i h e = absurd (omega arith)
any_at text (n ∷ ns) zero h e = ap (λ (b : Bool). b || list_any (bytes_eq text) ns) ((bytes_eq-Decides text n).1 (sym e))
any_at text (n ∷ ns) (suc i) h e = or_right (bytes_eq text n) (list_any (bytes_eq text) ns) (any_at text ns i (omega arith) e)

last_is : (names : List (List ℕ)) (text : List ℕ) (i : ℕ) → i ≡ length names → slice_index_or (names ++ text ∷ []) i [] ≡ text
last_is [] text zero e = refl
last_is [] text (suc i) e = cc
last_is (n ∷ ns) text zero e = cc
last_is (n ∷ ns) text (suc i) e = last_is ns text i (omega arith)

front_is : (names : List (List ℕ)) (text : List ℕ) (i : ℕ) → i < length names → slice_index_or (names ++ text ∷ []) i [] ≡ slice_index_or names i []
front_is [] text i h = absurd (omega arith)
front_is (n ∷ ns) text zero h = refl
front_is (n ∷ ns) text (suc i) h = front_is ns text i (omega arith)

-- names that are names, each once
pub record NamesOk (names : List (List ℕ)) : Type 0 where
  pub each : AllByRecursion (λ w. is_name w ≡ true) names
  pub apart : AreApart names

new_apart : (names : List (List ℕ)) (text : List ℕ) → AreApart names → list_any (bytes_eq text) names ≡ false → AreApart (names ++ text ∷ [])
new_apart names text h fresh = record {
  apart = λ m n mh nh e.
      elim (cases_lt m (length names)) [
        | inl mi ↦ elim (cases_lt n (length names)) [
          | inl ni ↦ h.apart m n mi ni (sym (front_is names text m mi) ∙ e ∙ front_is names text n ni)
          | inr nl ↦ absurd (clash m mi (sym (front_is names text m mi) ∙ e ∙ last_is names text n (omega (arith, length-append names (text ∷ [])))))
        ]
        | inr ml ↦ elim (cases_lt n (length names)) [
          | inl ni ↦ absurd (clash n ni (sym (front_is names text n ni) ∙ sym e ∙ last_is names text m (omega (arith, length-append names (text ∷ [])))))
          | inr nl ↦ omega (arith, length-append names (text ∷ []))
        ]
      ];
}
  where
    clash : (i : ℕ) → i < length names → slice_index_or names i [] ≢ text
    clash i k same = let found = any_at text names i k same in cc

text_ok : (names : List (List ℕ)) (text : List ℕ) (b : Bool) → list_any (bytes_eq text) names ≡ b → NamesOk names → is_name text ≡ true → NamesOk (if b then names else names ++ text ∷ [])
text_ok names text true e h n = h
text_ok names text false e h n = record { each = each_push (λ w. is_name w ≡ true) names text h.each n; apart = new_apart names text h.apart e }

-- the name of a line
abbrev pub named_word : Option LineWord → List (List ℕ) → Option (List ℕ)
named_word None ws = None
named_word (Some word) ws = option_map (word_at ws) (name_place word)

abbrev pub line_name : List (List ℕ) → Option (List ℕ)
line_name [] = None
line_name (w ∷ ws) = named_word (line_word w) ws

abbrev pub with_line : List (List ℕ) → Option (List ℕ) → List (List ℕ)
with_line names None = names
with_line names (Some text) = with_text names text

abbrev pub lines_names : List (List ℕ) → List (List (List ℕ)) → List (List ℕ)
lines_names names [] = names
lines_names names (ws ∷ lss) = lines_names (with_line names (line_name ws)) lss

names_append : (names : List (List ℕ)) (xs ys : List (List (List ℕ))) → lines_names names (xs ++ ys) ≡ lines_names (lines_names names xs) ys
names_append names [] ys = refl
names_append names (ws ∷ xs) ys = names_append (with_line names (line_name ws)) xs ys

-- what a line does to the names
pub record Adds (names after : List (List ℕ)) (lss : List (List (List ℕ))) : Type 0 where
  pub order : after ≡ lines_names names lss
  pub ok : NamesOk names → NamesOk after

named_same : (names : List (List ℕ)) (o : Option ℕ) (ws : List (List ℕ)) → (intern_name names o ws).1 ≡ with_line names (option_map (word_at ws) o)
named_same names None ws = refl
named_same names (Some p) ws = refl

named_ok : (names : List (List ℕ)) (o : Option ℕ) (ws : List (List ℕ)) → IfSome o (λ p. is_name (word_at ws p) ≡ true) → NamesOk names → NamesOk (intern_name names o ws).1
named_ok names None ws n h = h
named_ok names (Some p) ws n h = text_ok names (word_at ws p) (list_any (bytes_eq (word_at ws p)) names) refl h n

word_adds : (r : Reader) (word : Option LineWord) (w : List ℕ) (ws : List (List ℕ)) → line_word w ≡ word → word_fault (place_of r) word ws ≡ None → Adds r.names (with_word r word ws).names ((w ∷ ws) ∷ [])
word_adds r None w ws e fault = cc
word_adds r (Some word) w ws e fault =
    let parts = option_or_none (shape_fault word ws) (place_fault (place_of r) word ws) fault in
    let found = intern_name r.names (name_place word) ws in
    let names : (with_named r word found ws).names ≡ found.1 = kept (record r { names = found.1 }) word found.0 ws in
    record {
      order = names ∙ named_same r.names (name_place word) ws ∙ ap (λ (o : Option LineWord). with_line r.names (named_word o ws)) (sym e);
      ok = λ h. subst NamesOk (sym names) (named_ok r.names (name_place word) ws (names_are word ws parts.0) h);
    }

spoken_adds : (r : Reader) (b : Bool) (w : List ℕ) (ws : List (List ℕ)) → (if b then None else word_fault (place_of r) (line_word w) ws) ≡ None →
    Adds r.names (if b then r else with_word r (line_word w) ws).names (cond (not b) ((w ∷ ws) ∷ []) [])
spoken_adds r true w ws fault = record { order = refl; ok = λ h. h }
spoken_adds r false w ws fault = word_adds r (line_word w) w ws refl fault

words_adds : (r : Reader) (ws : List (List ℕ)) → words_fault (place_of r) ws ≡ None → Adds r.names (with_words r ws).names (filter speaks (ws ∷ []))
unfolding words_fault with_words
words_adds r [] fault = record { order = refl; ok = λ h. h }
words_adds r (w ∷ ws) fault = spoken_adds r (starts_with 35 w) w ws fault

pub read_adds : (n : ℕ) (r s : Reader) (lines : List (List ℕ)) → read_from n r lines ≡ Ok s → Adds r.names s.names (said_lines lines)
read_adds n r s [] e = subst (λ (x : Reader). Adds r.names x.names []) (end_read n r s e).1 (record { order = refl; ok = λ h. h })
read_adds n r s (line ∷ lines) e =
    let read = line_read n r s line lines e in
    let first = words_adds r (words_of line) read.words in
    let rest = read_adds (n + 1) (with_words r (words_of line)) s lines read.rest in
    record {
      order = rest.order ∙ ap (λ (ns : List (List ℕ)). lines_names ns (said_lines lines)) first.order
          ∙ sym (names_append r.names (filter speaks (words_of line ∷ [])) (said_lines lines))
          ∙ ap (lines_names r.names) (filter_first speaks (words_of line) (map words_of lines));
      ok = λ h. rest.ok (first.ok h);
    }

-- the names of a program's lines are those of the program
operand_name : (text : ℕ → List ℕ) (i : Instr) → named_word (Some (W.Instr (opcode_of i))) (map (operand_word text) (operands_in i)) ≡ option_map text (name_in i)
operand_name text (I.Drop d) = refl
operand_name text (I.Row d values) = ap (option_map text) (row_unnamed values)
operand_name text i = refl

by_name : (names : List (List ℕ)) (text : ℕ → List ℕ) (o : Option ℕ) → with_line names (option_map text o) ≡ instr_names text names o
by_name names text None = refl
by_name names text (Some n) = refl

instr_name : (names : List (List ℕ)) (text : ℕ → List ℕ) (i : Instr) → with_line names (line_name (instr_words text i)) ≡ instr_names text names (name_in i)
instr_name names text i =
    ap (λ (o : Option LineWord). with_line names (named_word o (map (operand_word text) (operands_in i)))) (spelled_word (W.Instr (opcode_of i)))
    ∙ ap (with_line names) (operand_name text i) ∙ by_name names text (name_in i)

body_same : (text : ℕ → List ℕ) (names : List (List ℕ)) (is : List Instr) → lines_names names (map (instr_words text) is) ≡ body_names text names is
body_same text names [] = refl
body_same text names (i ∷ is) =
    ap (λ (ns : List (List ℕ)). lines_names ns (map (instr_words text) is)) (instr_name names text i) ∙ body_same text (instr_names text names (name_in i)) is

behaviour_same : (text : ℕ → List ℕ) (names : List (List ℕ)) (b : Behaviour) → lines_names names (behaviour_lines text b) ≡ body_names text (with_text names (text b.name)) b.body
unfolding line_word
behaviour_same text names b = names_append (with_text names (text b.name)) (map (instr_words text) b.body) _ ∙ body_same text (with_text names (text b.name)) b.body

behaviours_same : (text : ℕ → List ℕ) (names : List (List ℕ)) (bs : List Behaviour) → lines_names names (flat_map (behaviour_lines text) bs) ≡ behaviours_names text names bs
behaviours_same text names [] = refl
behaviours_same text names (b ∷ bs) =
    names_append names (behaviour_lines text b) (flat_map (behaviour_lines text) bs)
    ∙ ap (λ (ns : List (List ℕ)). lines_names ns (flat_map (behaviour_lines text) bs)) (behaviour_same text names b)
    ∙ behaviours_same text (body_names text (with_text names (text b.name)) b.body) bs

kind_same : (text : ℕ → List ℕ) (names : List (List ℕ)) (k : Kind) → lines_names names (kind_lines text k) ≡ behaviours_names text (with_text names (text k.name)) k.behaviours
unfolding line_word
kind_same text names k = behaviours_same text (with_text names (text k.name)) k.behaviours

pub kinds_same : (text : ℕ → List ℕ) (names : List (List ℕ)) (ks : List Kind) → lines_names names (flat_map (kind_lines text) ks) ≡ kinds_names text names ks
kinds_same text names [] = refl
kinds_same text names (k ∷ ks) =
    names_append names (kind_lines text k) (flat_map (kind_lines text) ks)
    ∙ ap (λ (ns : List (List ℕ)). lines_names ns (flat_map (kind_lines text) ks)) (kind_same text names k)
    ∙ kinds_same text (behaviours_names text (with_text names (text k.name)) k.behaviours) ks
