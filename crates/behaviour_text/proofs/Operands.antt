-- The numbers of a line's operands, one after the other.
use Rattle.std.proofs.Common.{◌≡◌, ℕ, ◌+◌, ◌<◌, List, [], ◌∷◌, ◌++◌, length, take, drop, get_or, map, refl, ap, sym, ◌∙◌, arith, Option, Some, None, zero, suc, slice_index_or, add-one, ap₂, Bool, true, false, nat_le, if◌then◌else◌, ◌≤◌, leb-true, le-leb}
use Rattle.std.proofs.lemmas.Bool.{leb-false, lt-leb}
use Rattle.std.proofs.lemmas.List.{get_or-map, length-map}
use denote.Ref.{Bor}
use Rattle.behaviour_text.specs.Items.{register_of, operand_number, operand_numbers}
use Rattle.behaviour_text.specs.Table.{operand_fault, operands_fault}
use Rattle.behaviour_text.specs.Words.{word_at}
use Rattle.behaviour_code.specs.declared.opcode.OperandKind.{OperandKind}
use Rattle.behaviour_code.specs.declared.opcode.OperandKind.TheVariants as P
use Rattle.behaviour_text.specs.Kinds.{lower, lowest, number}
use Rattle.behaviour_text.specs.declared.errors.FaultKind.{FaultKind}

lower_further : (a b c : FaultKind) → lower a (lower b c) ≡ lower (lower a b) c
lower_further a b c = by_tests (nat_le (number a) (number b)) (nat_le (number b) (number c)) refl refl
  where
    by_tests : (p q : Bool) → nat_le (number a) (number b) ≡ p → nat_le (number b) (number c) ≡ q → lower a (if q then b else c) ≡ lower (if p then a else b) c
    by_tests true false e f = refl
    by_tests false true e f = ap (λ (x : Bool). if x then a else b) e ∙ sym (ap (λ (x : Bool). if x then b else c) f)
    by_tests true true e f =
        let first : number a ≤ number b = leb-true (number a) (number b) e in
        let second : number b ≤ number c = leb-true (number b) (number c) f in
        ap (λ (x : Bool). if x then a else b) e ∙ sym (ap (λ (x : Bool). if x then a else c) (le-leb (number a) (number c) (omega arith)))
    by_tests false false e f =
        let first : number b < number a = leb-false (number a) (number b) e in
        let second : number c < number b = leb-false (number b) (number c) f in
        ap (λ (x : Bool). if x then a else c) (lt-leb (number a) (number c) (omega arith)) ∙ sym (ap (λ (x : Bool). if x then b else c) f)

lowest_further : (a b c : Option FaultKind) → lowest a (lowest b c) ≡ lowest (lowest a b) c
lowest_further None b c = refl
lowest_further (Some a) None c = refl
lowest_further (Some a) (Some b) None = refl
lowest_further (Some a) (Some b) (Some c) = ap Some (lower_further a b c)

lowest_end : (a : Option FaultKind) → lowest a None ≡ a
lowest_end None = refl
lowest_end (Some a) = refl

fault_next : (operands : List OperandKind) (ws : List (List ℕ)) (i : ℕ) → i < length ws →
    operands_fault operands (take (suc i) ws)
    ≡ lowest (operands_fault operands (take i ws)) (operand_fault (slice_index_or operands i P.Register) (get_or ws i []))
fault_next operands [] i l = absurd (omega arith)
fault_next [] (w ∷ ws) zero l = lowest_end (operand_fault P.Register w)
fault_next (o ∷ os) (w ∷ ws) zero l = lowest_end (operand_fault o w)
fault_next [] (w ∷ ws) (suc i) l =
    ap (lowest (operand_fault P.Register w)) (fault_next [] ws i (omega arith)) ∙ lowest_further (operand_fault P.Register w) _ _
fault_next (o ∷ os) (w ∷ ws) (suc i) l =
    ap (lowest (operand_fault o w)) (fault_next os ws i (omega arith)) ∙ lowest_further (operand_fault o w) _ _

-- the lowest fault of one operand more
pub fault_more : (operands : List OperandKind) (ws : List (List ℕ)) (i : ℕ) → i < length ws →
    operands_fault operands (take (i + 1) ws)
    ≡ lowest (operands_fault operands (take i ws)) (operand_fault (slice_index_or operands i P.Register) (get_or ws i []))
fault_more operands ws i l = rw add-one (fault_next operands ws i l)

numbers_next : (operands : List OperandKind) (ws : List (List ℕ)) (i : ℕ) → i < length ws →
    operand_numbers operands (take (suc i) ws)
    ≡ operand_numbers operands (take i ws) ++ operand_number (slice_index_or operands i P.Register) (get_or ws i []) ∷ []
numbers_next operands [] i l = absurd (omega arith)
numbers_next [] (w ∷ ws) zero l = refl
numbers_next (o ∷ os) (w ∷ ws) zero l = refl
numbers_next [] (w ∷ ws) (suc i) l = ap (λ (ns : List ℕ). register_of w ∷ ns) (numbers_next [] ws i (omega arith))
numbers_next (o ∷ os) (w ∷ ws) (suc i) l = ap (λ (ns : List ℕ). operand_number o w ∷ ns) (numbers_next os ws i (omega arith))

-- the number of one operand more
pub numbers_more : (operands : List OperandKind) (ws : List (List ℕ)) (i : ℕ) → i < length ws →
    operand_numbers operands (take (i + 1) ws)
    ≡ operand_numbers operands (take i ws) ++ operand_number (slice_index_or operands i P.Register) (get_or ws i []) ∷ []
numbers_more operands ws i l = rw add-one (numbers_next operands ws i l)

-- what was read of some operands
pub record IsRead (operands : List OperandKind) (ws : List (List ℕ)) (found : Option FaultKind) (ns : List ℕ) : Type 0 where
  pub fault : found ≡ operands_fault operands ws
  pub numbers : found ≡ None → ns ≡ operand_numbers operands ws

at_word : (ws : List (Bor (List ℕ))) (i : ℕ) (d : Bor (List ℕ)) → i < length ws → get_or (map (λ (w : Bor (List ℕ)). w.now) ws) i [] ≡ (get_or ws i d).now
at_word ws i d l = get_or-map (λ (w : Bor (List ℕ)). w.now) ws i d [] l

-- one operand without a fault more
pub fit_more : (operands : List OperandKind) (ws : List (Bor (List ℕ))) (i : ℕ) (d : Bor (List ℕ)) (operand : OperandKind) (found : Option FaultKind) (ns : List ℕ) (n : ℕ) →
    i < length ws → operand ≡ slice_index_or operands i P.Register →
    operand_fault operand (get_or ws i d).now ≡ None → n ≡ operand_number operand (get_or ws i d).now →
    IsRead operands (take i (map (λ (w : Bor (List ℕ)). w.now) ws)) found ns → IsRead operands (take (i + 1) (map (λ (w : Bor (List ℕ)). w.now) ws)) found (ns ++ n ∷ [])
fit_more operands ws i d operand found ns n l at none number read =
    let words = map (λ (w : Bor (List ℕ)). w.now) ws in
    let within : i < length words = omega (arith, length-map ws (λ (w : Bor (List ℕ)). w.now)) in
    let fit : operand_fault (slice_index_or operands i P.Register) (get_or words i []) ≡ None = ap₂ operand_fault (sym at) (at_word ws i d l) ∙ none in
    let said : n ≡ operand_number (slice_index_or operands i P.Register) (get_or words i []) = number ∙ ap₂ operand_number at (sym (at_word ws i d l)) in
    record {
      fault = read.fault ∙ sym (lowest_end (operands_fault operands (take i words))) ∙ ap (lowest (operands_fault operands (take i words))) (sym fit) ∙ sym (fault_more operands words i within);
      numbers = λ h. ap₂ (λ (a : List ℕ) (b : ℕ). a ++ b ∷ []) (read.numbers h) said ∙ sym (numbers_more operands words i within);
    }

lowest_some : (a : Option FaultKind) (k : FaultKind) → ¬ (lowest a (Some k) ≡ None)
lowest_some None k h = cc
lowest_some (Some a) k h = cc

-- one operand with a fault more
pub fault_further : (operands : List OperandKind) (ws : List (Bor (List ℕ))) (i : ℕ) (d : Bor (List ℕ)) (operand : OperandKind) (found : Option FaultKind) (ns : List ℕ) (kind : FaultKind) →
    i < length ws → operand ≡ slice_index_or operands i P.Register → operand_fault operand (get_or ws i d).now ≡ Some kind →
    IsRead operands (take i (map (λ (w : Bor (List ℕ)). w.now) ws)) found ns → IsRead operands (take (i + 1) (map (λ (w : Bor (List ℕ)). w.now) ws)) (lowest found (Some kind)) ns
fault_further operands ws i d operand found ns kind l at fault read =
    let words = map (λ (w : Bor (List ℕ)). w.now) ws in
    let within : i < length words = omega (arith, length-map ws (λ (w : Bor (List ℕ)). w.now)) in
    let there : operand_fault (slice_index_or operands i P.Register) (get_or words i []) ≡ Some kind = ap₂ operand_fault (sym at) (at_word ws i d l) ∙ fault in
    record {
      fault = ap₂ lowest read.fault (sym there) ∙ sym (fault_more operands words i within);
      numbers = λ h. absurd (lowest_some found kind h);
    }

pub numbers_length : (operands : List OperandKind) (ws : List (List ℕ)) → length (operand_numbers operands ws) ≡ length ws
numbers_length operands [] = refl
numbers_length [] (w ∷ ws) = ap suc (numbers_length [] ws)
numbers_length (o ∷ os) (w ∷ ws) = ap suc (numbers_length os ws)

number_none : (operand : OperandKind) → 0 ≡ operand_number operand []
number_none P.Register = refl
number_none P.Field = refl
number_none P.Number = refl
number_none P.Name = refl

-- the number at a place is the one of the word there
pub number_there : (operands : List OperandKind) (ws : List (List ℕ)) (i : ℕ) →
    slice_index_or (operand_numbers operands ws) i 0 ≡ operand_number (slice_index_or operands i P.Register) (word_at ws i)
number_there operands [] i = number_none (slice_index_or operands i P.Register)
number_there [] (w ∷ ws) zero = refl
number_there (o ∷ os) (w ∷ ws) zero = refl
number_there [] (w ∷ ws) (suc i) = number_there [] ws i
number_there (o ∷ os) (w ∷ ws) (suc i) = number_there os ws i

registers_are : (ws : List (List ℕ)) → operand_numbers [] ws ≡ map register_of ws
registers_are [] = refl
registers_are (w ∷ ws) = ap (λ (ns : List ℕ). register_of w ∷ ns) (registers_are ws)

-- the values of a row
pub row_values : (ws : List (List ℕ)) → drop 1 (operand_numbers (P.Register ∷ P.Register ∷ []) ws) ≡ map register_of (drop 1 ws)
row_values [] = refl
row_values (w ∷ []) = refl
row_values (w ∷ v ∷ vs) = ap (λ (ns : List ℕ). register_of v ∷ ns) (registers_are vs)

-- the arguments of a letter
pub send_values : (ws : List (List ℕ)) → drop 2 (operand_numbers (P.Register ∷ P.Name ∷ []) ws) ≡ map register_of (drop 2 ws)
send_values [] = refl
send_values (w ∷ []) = refl
send_values (w ∷ v ∷ vs) = registers_are vs
