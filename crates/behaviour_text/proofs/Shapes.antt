-- What a line without a fault in its operands is like.
use Rattle.behaviour_text.proofs.Choices.{both, either, chosen_none}
use Rattle.std.specs.Char.{is_ascii_alphanumeric}
use Rattle.std.proofs.Common.{◌≡◌, ℕ, ◌+◌, ◌<◌, ◌≤◌, Bool, true, false, List, [], ◌∷◌, length, refl, arith, Option, Some, None, IfSome, if◌then◌else◌, ◌&&◌, leb-true, IsUtf8, nat_le, ◌||◌, ◌==◌, inl, inr, eqb-true, IsAscii, zero, suc, subst}
use Rattle.std.specs.List.{list_all}
use Rattle.std.proofs.lemmas.Str.{IsUtf8-from_ascii}
use Rattle.behaviour_code.specs.Names.{is_name_byte, is_name}
use Rattle.behaviour_text.specs.Items.{name_place}
use Rattle.behaviour_text.specs.Table.{word_operands, word_further, operand_fault, operands_fault, fits_count, shape_fault}
use Rattle.behaviour_text.specs.Words.{word_at}
use Rattle.behaviour_text.specs.declared.table.LineWord.{LineWord}
use Rattle.behaviour_code.specs.declared.opcode.OperandKind.{OperandKind}
use Rattle.behaviour_text.specs.declared.table.LineWord.TheVariants as W
use Rattle.behaviour_code.specs.declared.opcode.Opcode.TheVariants as C
use Rattle.behaviour_code.specs.declared.opcode.OperandKind.TheVariants as P
use Rattle.behaviour_text.specs.Kinds.{lowest}
use Rattle.behaviour_text.specs.declared.errors.FaultKind.{FaultKind}
use Rattle.behaviour_text.specs.declared.errors.FaultKind.TheVariants as K

pub lowest_none : (a b : Option FaultKind) → lowest a b ≡ None → (a ≡ None) × (b ≡ None)
lowest_none None b h = (refl, h)
lowest_none (Some a) None h = cc
lowest_none (Some a) (Some b) h = cc

pub fits : (word : LineWord) (ws : List (List ℕ)) → shape_fault word ws ≡ None → (fits_count word (length ws) ≡ true) × (operands_fault (word_operands word) ws ≡ None)
unfolding shape_fault
fits word ws h = chosen_none (fits_count word (length ws)) (operands_fault (word_operands word) ws) K.WrongOperands h

pub enough : (word : LineWord) (n : ℕ) → fits_count word n ≡ true → (length (word_operands word) ≤ n) × (n ≤ length (word_operands word) + word_further word)
enough word n h =
    let parts = both (nat_le (length (word_operands word)) n) (nat_le n (length (word_operands word) + word_further word)) h in
    (leb-true _ _ parts.0, leb-true _ _ parts.1)

pub name_fits : (w : List ℕ) → operand_fault P.Name w ≡ None → is_name w ≡ true
name_fits w h = named (is_name w) h
  where
    named : (b : Bool) → if◌then◌else◌ {A = Option FaultKind} b None (Some K.BadName) ≡ None → b ≡ true
    named true h = refl
    named false h = cc

first_name : (wants : List OperandKind) (ws : List (List ℕ)) → 1 ≤ length ws → operands_fault (P.Name ∷ wants) ws ≡ None → is_name (word_at ws 0) ≡ true
first_name wants [] some h = absurd (omega arith)
first_name wants (w ∷ ws) some h = name_fits w (lowest_none (operand_fault P.Name w) (operands_fault wants ws) h).0

second_name : (want : OperandKind) (wants : List OperandKind) (ws : List (List ℕ)) → 2 ≤ length ws → operands_fault (want ∷ P.Name ∷ wants) ws ≡ None → is_name (word_at ws 1) ≡ true
second_name want wants [] some h = absurd (omega arith)
second_name want wants (w ∷ ws) some h =
    first_name wants ws (omega arith) (lowest_none (operand_fault want w) (operands_fault (P.Name ∷ wants) ws) h).1

-- a line's name is one
pub names_are : (word : LineWord) (ws : List (List ℕ)) → shape_fault word ws ≡ None → IfSome (name_place word) (λ place. is_name (word_at ws place) ≡ true)
names_are W.Kind ws h = let f = fits W.Kind ws h in first_name _ ws (omega (arith, (enough W.Kind (length ws) f.0).0)) f.1
names_are W.On ws h = let f = fits W.On ws h in first_name _ ws (omega (arith, (enough W.On (length ws) f.0).0)) f.1
names_are (W.Instr C.Jump) ws h = let f = fits (W.Instr C.Jump) ws h in first_name _ ws (omega (arith, (enough (W.Instr C.Jump) (length ws) f.0).0)) f.1
names_are (W.Instr C.Label) ws h = let f = fits (W.Instr C.Label) ws h in first_name _ ws (omega (arith, (enough (W.Instr C.Label) (length ws) f.0).0)) f.1
names_are (W.Instr C.JumpZero) ws h = let f = fits (W.Instr C.JumpZero) ws h in second_name _ _ ws (omega (arith, (enough (W.Instr C.JumpZero) (length ws) f.0).0)) f.1
names_are (W.Instr C.New) ws h = let f = fits (W.Instr C.New) ws h in second_name _ _ ws (omega (arith, (enough (W.Instr C.New) (length ws) f.0).0)) f.1
names_are (W.Instr C.Send) ws h = let f = fits (W.Instr C.Send) ws h in second_name _ _ ws (omega (arith, (enough (W.Instr C.Send) (length ws) f.0).0)) f.1
names_are _ ws h = tt

small_name_byte : (b : ℕ) → is_name_byte b ≡ true → b < 128
small_name_byte b h =
    elim (either (is_ascii_alphanumeric b) (b == 95) h) [
      | inl front ↦ elim (either ((nat_le 48 b && nat_le b 57) || (nat_le 65 b && nat_le b 90)) (nat_le 97 b && nat_le b 122) front) [
        | inl first ↦ elim (either (nat_le 48 b && nat_le b 57) (nat_le 65 b && nat_le b 90) first) [
          | inl digit ↦ let small : b ≤ 57 = leb-true b 57 (both (nat_le 48 b) (nat_le b 57) digit).1 in omega arith
          | inr capital ↦ let small : b ≤ 90 = leb-true b 90 (both (nat_le 65 b) (nat_le b 90) capital).1 in omega arith
        ]
        | inr letter ↦ let small : b ≤ 122 = leb-true b 122 (both (nat_le 97 b) (nat_le b 122) letter).1 in omega arith
      ]
      | inr under ↦ let same : b ≡ 95 = eqb-true b 95 under in omega arith
    ]

ascii_name : (bs : List ℕ) → list_all is_name_byte bs ≡ true → IsAscii bs
ascii_name [] h i = omega arith
ascii_name (b ∷ bs) h zero = small_name_byte b (both _ _ h).0
ascii_name (b ∷ bs) h (suc i) = ascii_name bs (both _ _ h).1 i

pub name_utf8 : (w : List ℕ) → is_name w ≡ true → IsUtf8 w
name_utf8 w h = IsUtf8-from_ascii w (ascii_name w (both (nat_le 1 (length w) && nat_le (length w) 32) (list_all is_name_byte w) h).1)

pub name_at : (word : LineWord) (place : ℕ) (ws : List (List ℕ)) → name_place word ≡ Some place → shape_fault word ws ≡ None → is_name (word_at ws place) ≡ true
name_at word place ws e h =
    subst (λ (o : Option ℕ). IfSome o (λ (p : ℕ). is_name (word_at ws p) ≡ true)) e (names_are word ws h)
