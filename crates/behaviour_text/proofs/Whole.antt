-- The lines of a program are read as that program.
use Rattle.behaviour_text.proofs.Choices.{push_grows}
use Rattle.std.proofs.Common.{◌≡◌, ℕ, ◌<◌, ◌≤◌, Bool, true, false, List, [], ◌∷◌, ◌++◌, length, refl, ap, ap₂, sym, ◌∙◌, subst, arith, Option, Some, None, IfSome, if◌then◌else◌, le-ltb, bytes_eq}
use Rattle.std.specs.List.{list_any}
use Rattle.behaviour_text.proofs.Known.{finds, texts_kept}
use Rattle.behaviour_text.proofs.Reread.{shape_read, instr_read, spelled_word}
use Rattle.std.specs.Option.{option_or, unwrap_or}
use Rattle.behaviour_code.specs.WellFormed.{InstrFits, name_in, AreApart, NameFits, instr_names}
use Rattle.behaviour_code.specs.Names.{is_name, text_of, with_text, intern}
use Rattle.behaviour_code.specs.declared.instr.Instr.{Instr}
use Rattle.behaviour_text.specs.Faults.{inside_fault, body_fault, place_fault, word_fault, words_fault}
use Rattle.behaviour_text.specs.Items.{instr_of, name_place}
use Rattle.behaviour_text.specs.Reading.{place_of, with_instr, intern_name, with_named, with_word, with_words}
use Rattle.behaviour_text.specs.Table.{word_spelling, starts_with, shape_fault}
use Rattle.behaviour_text.specs.Text.{instr_words}
use Rattle.behaviour_text.specs.declared.place.Stage.TheVariants.{InBehaviour}
use Rattle.behaviour_text.specs.declared.reader.Reader.{Reader}
use Rattle.behaviour_text.specs.declared.table.LineWord.{LineWord}
use Rattle.behaviour_text.specs.declared.table.LineWord.TheVariants as W
use Rattle.behaviour_code.specs.declared.opcode.Opcode.TheVariants as C
use Rattle.behaviour_code.specs.declared.instr.Instr.TheVariants as I
use Rattle.behaviour_text.specs.declared.errors.FaultKind.{FaultKind}
use Rattle.behaviour_text.specs.declared.errors.FaultKind.TheVariants as K
use Rattle.std.proofs.Common.{map}
use Rattle.behaviour_code.specs.Operands.{opcode_of, operands_in}
use Rattle.behaviour_text.proofs.Instructions.{row_unnamed}
use Rattle.behaviour_text.specs.Text.{operand_word}

-- names is the front of all
pub record IsFront (names all : List (List ℕ)) : Type 0 where
  pub same : (n : ℕ) → n < length names → text_of names n ≡ text_of all n
  pub short : length names ≤ length all

pub front_before : (names all : List (List ℕ)) (text : List ℕ) → IsFront (with_text names text) all → IsFront names all
front_before names all text h =
    let grown = push_grows (list_any (bytes_eq text) names) names text in
    let short = h.short in
    record { same = λ n k. texts_kept names text n k ∙ h.same n (omega arith); short = omega arith }

-- a name's text is given its number
pub number_found : (names all : List (List ℕ)) (n : ℕ) → AreApart all → n < length all → IsFront (with_text names (text_of all n)) all → (intern names (text_of all n)).0 ≡ n
number_found names all n apart within front =
    let f = finds names (text_of all n) in
    let p : ℕ = (intern names (text_of all n)).0 in
    let short = front.short in
    let inside = f.within in
    apart.apart p n (omega arith) within (sym (front.same p inside) ∙ f.said)

-- the name in an instruction, 0 where it has none, and the texts after it
abbrev instr_named : List (List ℕ) → (ℕ → List ℕ) → Option ℕ → ℕ × List (List ℕ)
instr_named names text None = (0, names)
instr_named names text (Some name) = intern names (text name)

instr_named-texts : (names : List (List ℕ)) (text : ℕ → List ℕ) (o : Option ℕ) → (instr_named names text o).1 ≡ instr_names text names o
instr_named-texts names text None = refl
instr_named-texts names text (Some name) = refl

named_for : (names : List (List ℕ)) (text : ℕ → List ℕ) (i : Instr) → intern_name names (name_place (W.Instr (opcode_of i))) (map (operand_word text) (operands_in i)) ≡ instr_named names text (name_in i)
named_for names text (I.Drop d) = refl
named_for names text (I.Row d values) = ap (instr_named names text) (row_unnamed values)
named_for names text i = refl

pub no_hash : (word : LineWord) → starts_with 35 (word_spelling word) ≡ false
no_hash W.Kind = refl
no_hash (W.Instr C.Drop) = refl
no_hash word = refl

few_enough : (n : ℕ) → n < 1024 → body_fault n ≡ None
few_enough n h = ap (λ (b : Bool). if◌then◌else◌ {A = Option FaultKind} b (Some K.TooMany) None) (le-ltb 1023 n (omega arith))

name_found : (names all : List (List ℕ)) (o : Option ℕ) → AreApart all → IfSome o (NameFits all) → IsFront (instr_names (text_of all) names o) all →
    (instr_named names (text_of all) o).0 ≡ unwrap_or o 0
name_found names all None apart fits front = refl
name_found names all (Some l) apart fits front = number_found names all l apart fits.within front

name_good : (all : List (List ℕ)) (o : Option ℕ) → IfSome o (NameFits all) → IfSome o (λ name. is_name (text_of all name) ≡ true)
name_good all None h = tt
name_good all (Some l) h = h.form

-- a line without a fault, and what it leaves
pub record Takes (r s : Reader) (ws : List (List ℕ)) : Type 0 where
  pub clean : words_fault (place_of r) ws ≡ None
  pub next : with_words r ws ≡ s

-- what an operation with its operands leaves
pub takes_word : (r s : Reader) (word : LineWord) (ws : List (List ℕ)) → shape_fault word ws ≡ None → place_fault (place_of r) word ws ≡ None → with_named r word (intern_name r.names (name_place word) ws) ws ≡ s → Takes r s (word_spelling word ∷ ws)
unfolding words_fault with_words
takes_word r s word ws shape place next = record {
  clean = ap₂ (λ (b : Bool) (o : Option LineWord). if◌then◌else◌ {A = Option FaultKind} b None (word_fault (place_of r) o ws)) (no_hash word) (spelled_word word) ∙ ap₂ option_or shape place;
  next = ap₂ (λ (b : Bool) (o : Option LineWord). if◌then◌else◌ {A = Reader} b r (with_word r o ws)) (no_hash word) (spelled_word word) ∙ next;
}

pub instr_takes : (all : List (List ℕ)) (r : Reader) (i : Instr) → AreApart all → r.stage ≡ InBehaviour → length r.body < 1024 → InstrFits i → IfSome (name_in i) (NameFits all) →
    IsFront (instr_names (text_of all) r.names (name_in i)) all →
    Takes r (record r { names = instr_names (text_of all) r.names (name_in i); body = r.body ++ i ∷ [] }) (instr_words (text_of all) i)
unfolding with_instr
instr_takes all r i apart stage few fits name front =
    let text = text_of all in
    let word = W.Instr (opcode_of i) in
    let ws = map (operand_word text) (operands_in i) in
    let found = instr_named r.names text (name_in i) in
    let renamed : Reader = record r { names = found.1 } in
    let place : place_fault (place_of r) word ws ≡ None = ap₂ inside_fault stage (few_enough (length r.body) few) in
    let read : instr_of (opcode_of i) found.0 ws ≡ i =
    ap (λ (n : ℕ). instr_of (opcode_of i) n ws) (name_found r.names all (name_in i) apart name front) ∙ instr_read text i 0 fits.1 in
    let next : with_named r word (intern_name r.names (name_place word) ws) ws ≡ with_instr renamed i =
    ap (λ (f : ℕ × List (List ℕ)). with_named r word f ws) (named_for r.names text i) ∙ ap (with_instr renamed) read in
    let takes : Takes r (with_instr renamed i) (instr_words text i) =
    takes_word r (with_instr renamed i) word ws (shape_read text i fits (name_good all (name_in i) name)) place next in
    subst (λ (names : List (List ℕ)). Takes r (record r { names = names; body = r.body ++ i ∷ [] }) (instr_words text i)) (instr_named-texts r.names text (name_in i)) takes
