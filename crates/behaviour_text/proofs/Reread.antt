-- What an instruction is spelled as is read as that instruction.
use Rattle.behaviour_text.proofs.Choices.{both, and_true}
use Rattle.std.specs.Char.{is_ascii_digit}
use Rattle.std.proofs.Common.{◌≡◌, ℕ, ◌+◌, ◌<◌, ◌≤◌, ◌^◌, Bool, true, List, [], ◌∷◌, ◌==◌, ◌&&◌, length, map, refl, ap, ap₂, sym, ◌∙◌, subst, arith, Option, Some, None, IfSome, if◌then◌else◌, is_some, nat_lt, decimal, get_or, not, le-leb, lt-ltb, ne_eqb, ◌⊎◌, inl, inr}
use Rattle.std.specs.List.{list_all}
use Rattle.std.specs.Str.Parse.{digits_value}
use Rattle.std.proofs.lemmas.Fmt.{digits_decimal, digits_value-decimal, decimal_nonempty, first_decimal, decimal_digit}
use Rattle.std.proofs.lemmas.Bool.{cases_lt}
use Rattle.std.proofs.lemmas.List.{length-map}
use Rattle.behaviour_text.proofs.Numerals.{own}
use Rattle.std.specs.Option.{unwrap_or}
use Rattle.behaviour_code.specs.WellFormed.{InstrFits, name_in}
use Rattle.behaviour_code.specs.Names.{is_name}
use Rattle.behaviour_code.specs.declared.instr.Instr.{Instr}
use Rattle.behaviour_text.specs.Items.{register_of, instr_of}
use Rattle.behaviour_text.specs.Table.{word_spelling, line_word, word_operands, word_further, lettered_fault, operand_fault, operands_fault, fits_count, shape_fault}
use Rattle.behaviour_text.specs.Text.{register, field}
use Rattle.behaviour_text.specs.Words.{has_numeral_form, numeral, number_of}
use Rattle.behaviour_text.specs.declared.table.LineWord.{LineWord}
use Rattle.behaviour_text.specs.declared.table.LineWord.TheVariants as W
use Rattle.behaviour_code.specs.declared.opcode.Opcode.TheVariants as C
use Rattle.behaviour_code.specs.declared.opcode.OperandKind.TheVariants as P
use Rattle.behaviour_code.specs.declared.instr.Instr.TheVariants as I
use Rattle.behaviour_text.specs.Kinds.{lowest}
use Rattle.behaviour_text.specs.declared.errors.FaultKind.{FaultKind}
use Rattle.behaviour_text.specs.declared.errors.FaultKind.TheVariants as K
use Rattle.std.specs.List.{AllByRecursion}
use Rattle.behaviour_code.specs.declared.operand.Operand.{Operand}
use Rattle.behaviour_code.specs.declared.operand.Operand.TheVariants as O
use Rattle.behaviour_code.specs.declared.opcode.OperandKind.{OperandKind}
use Rattle.behaviour_code.specs.Opcodes.{operand_kinds}
use Rattle.behaviour_code.specs.Operands.{opcode_of, operands_in}
use Rattle.behaviour_code.specs.WellFormed.{OperandFits, named_by}
use Rattle.behaviour_text.proofs.Instructions.{Matches, matches, names_all, operand_kind}
use Rattle.behaviour_text.specs.Text.{operand_word}

form_of : (ds : List ℕ) → list_all is_ascii_digit ds ≡ true → 0 < length ds → ((length ds ≡ 1) ⊎ (48 < get_or ds 0 0)) → has_numeral_form ds ≡ true
form_of [] h some k = absurd (omega arith)
form_of (d ∷ []) h some k = (both (is_ascii_digit d) true h).0
form_of (d ∷ e ∷ ds) h some (inl one) = absurd (omega arith)
form_of (d ∷ e ∷ ds) h some (inr first) = and_true (not (d == 48)) (list_all is_ascii_digit (d ∷ e ∷ ds)) (ap not (ne_eqb d 48 (λ same. omega arith))) h

one_or_more : (n : ℕ) → n < 2 ^ 64 → (length (decimal n) ≡ 1) ⊎ (48 < get_or (decimal n) 0 0)
one_or_more n h =
    elim (cases_lt 0 n) [
      | inl some ↦ inr (first_decimal n some h)
      | inr none ↦ inl (ap length (decimal_digit n (omega arith)))
    ]

given : (b c : Bool) (n m : ℕ) → b ≡ true → n ≡ m → nat_lt m (2 ^ 64) ≡ true → (if b && nat_lt n (2 ^ 64) then Some n else None) ≡ Some m
given b c n m e same h =
    subst (λ (k : ℕ). (if b && nat_lt k (2 ^ 64) then Some k else None) ≡ Some m) (sym same)
    (ap₂ (λ (x y : Bool). if x && y then Some m else None) e h)

pub numeral_decimal : (n : ℕ) → n < 2 ^ 64 → numeral (decimal n) ≡ Some n
numeral_decimal n h =
    given (has_numeral_form (decimal n)) true (digits_value 10 (decimal n)) n
    (form_of (decimal n) (digits_decimal own n h) (decimal_nonempty n h) (one_or_more n h))
    (digits_value-decimal own n h) (lt-ltb n (2 ^ 64) h)

pub number_read : (n : ℕ) → n < 2 ^ 64 → number_of (decimal n) ≡ n
number_read n h = ap (λ (o : Option ℕ). unwrap_or o 0) (numeral_decimal n h)

pub numeral_fits : (n : ℕ) → n < 2 ^ 64 → operand_fault P.Number (decimal n) ≡ None
numeral_fits n h = ap (λ (o : Option ℕ). if◌then◌else◌ {A = Option FaultKind} (is_some o) None (Some K.BadNumber)) (numeral_decimal n h)

lettered_fits : (letter n : ℕ) → (letter == letter) ≡ true → n < 2 ^ 64 → lettered_fault letter (letter ∷ decimal n) ≡ None
lettered_fits letter n e h =
    ap₂ (λ (b : Bool) (o : Option ℕ). if◌then◌else◌ {A = Option FaultKind} b (if is_some o then None else Some K.BadNumber) (Some K.WrongOperands)) e (numeral_decimal n h)

register_fits : (n : ℕ) → n < 2 ^ 64 → operand_fault P.Register (register n) ≡ None
register_fits n h = lettered_fits 114 n refl h

field_fits : (n : ℕ) → n < 2 ^ 64 → operand_fault P.Field (field n) ≡ None
field_fits n h = lettered_fits 102 n refl h

pub name_fits : (w : List ℕ) → is_name w ≡ true → operand_fault P.Name w ≡ None
name_fits w h = ap (λ (b : Bool). if◌then◌else◌ {A = Option FaultKind} b None (Some K.BadName)) h

pub nones : (a b : Option FaultKind) → a ≡ None → b ≡ None → lowest a b ≡ None
nones a b e h = ap₂ lowest e h

registers_read : (text : ℕ → List ℕ) (ns : List ℕ) → AllByRecursion OperandFits (map O.Register ns) → map register_of (map (operand_word text) (map O.Register ns)) ≡ ns
registers_read text [] h = refl
registers_read text (n ∷ ns) h = ap₂ (λ (x : ℕ) (xs : List ℕ). x ∷ xs) (number_read n h.0) (registers_read text ns h.1)

pub spelled_word : (word : LineWord) → line_word (word_spelling word) ≡ Some word
unfolding line_word
spelled_word W.Kind = refl
spelled_word (W.Instr C.Drop) = refl
spelled_word word = refl

counted : (word : LineWord) (n : ℕ) (rest : Option FaultKind) → length (word_operands word) ≤ n → n ≤ length (word_operands word) + word_further word → rest ≡ None → (if fits_count word n then rest else Some K.WrongOperands) ≡ None
counted word n rest least most h =
    ap₂ (λ (a b : Bool). if◌then◌else◌ {A = Option FaultKind} (a && b) rest (Some K.WrongOperands)) (le-leb (length (word_operands word)) n least) (le-leb n (length (word_operands word) + word_further word) most) ∙ h

operand_fits : (text : ℕ → List ℕ) (o : Operand) → OperandFits o → IfSome (named_by o) (λ name. is_name (text name) ≡ true) →
    operand_fault (operand_kind o) (operand_word text o) ≡ None
operand_fits text (O.Register n) h good = register_fits n h
operand_fits text (O.Field n) h good = field_fits n h
operand_fits text (O.Number n) h good = numeral_fits n h
operand_fits text (O.Name name) h good = name_fits (text name) good

kind_fits : (text : ℕ → List ℕ) (kind : OperandKind) (o : Operand) → operand_kind o ≡ kind → OperandFits o → IfSome (named_by o) (λ name. is_name (text name) ≡ true) →
    operand_fault kind (operand_word text o) ≡ None
kind_fits text kind o same h good = subst (λ (k : OperandKind). operand_fault k (operand_word text o) ≡ None) same (operand_fits text o h good)

operands_fit : (text : ℕ → List ℕ) (kinds : List OperandKind) (os : List Operand) → Matches kinds os → AllByRecursion OperandFits os →
    AllByRecursion (λ o. IfSome (named_by o) (λ name. is_name (text name) ≡ true)) os → operands_fault kinds (map (operand_word text) os) ≡ None
operands_fit text kinds [] m h good = refl
operands_fit text [] (o ∷ os) m h good = nones _ _ (kind_fits text P.Register o m.0 h.0 good.0) (operands_fit text [] os m.1 h.1 good.1)
operands_fit text (kind ∷ kinds) (o ∷ os) m h good = nones _ _ (kind_fits text kind o m.0 h.0 good.0) (operands_fit text kinds os m.1 h.1 good.1)

-- the operands of an instruction have no fault
pub shape_read : (text : ℕ → List ℕ) (i : Instr) → InstrFits i → IfSome (name_in i) (λ name. is_name (text name) ≡ true) → shape_fault (W.Instr (opcode_of i)) (map (operand_word text) (operands_in i)) ≡ None
unfolding shape_fault
shape_read text i h good =
    let least = h.0.0 in
    let most = h.0.1 in
    let count = length-map (operands_in i) (operand_word text) in
    counted (W.Instr (opcode_of i)) (length (map (operand_word text) (operands_in i))) _ (omega (arith, count)) (omega (arith, count))
    (operands_fit text (operand_kinds (opcode_of i)) (operands_in i) (matches i) h.1 (names_all (λ name. is_name (text name) ≡ true) i good))

-- an instruction is read again
pub instr_read : (text : ℕ → List ℕ) (i : Instr) (name : ℕ) → AllByRecursion OperandFits (operands_in i) → instr_of (opcode_of i) (unwrap_or (name_in i) name) (map (operand_word text) (operands_in i)) ≡ i
unfolding instr_of
instr_read text (I.Drop d) name h = ap (λ (x : ℕ). I.Drop x) (number_read d h.0)
instr_read text (I.Int d n) name h = ap₂ (λ (x y : ℕ). I.Int x y) (number_read d h.0) (number_read n h.1.0)
instr_read text (I.Own d) name h = ap (λ (x : ℕ). I.Own x) (number_read d h.0)
instr_read text (I.Copy d s) name h = ap₂ (λ (x y : ℕ). I.Copy x y) (number_read d h.0) (number_read s h.1.0)
instr_read text (I.Add d a b) name h = ap₂ (λ (x y : ℕ). I.Add x y (number_of (decimal b))) (number_read d h.0) (number_read a h.1.0) ∙ ap (λ (x : ℕ). I.Add d a x) (number_read b h.1.1.0)
instr_read text (I.Sub d a b) name h = ap₂ (λ (x y : ℕ). I.Sub x y (number_of (decimal b))) (number_read d h.0) (number_read a h.1.0) ∙ ap (λ (x : ℕ). I.Sub d a x) (number_read b h.1.1.0)
instr_read text (I.Mul d a b) name h = ap₂ (λ (x y : ℕ). I.Mul x y (number_of (decimal b))) (number_read d h.0) (number_read a h.1.0) ∙ ap (λ (x : ℕ). I.Mul d a x) (number_read b h.1.1.0)
instr_read text (I.Less d a b) name h = ap₂ (λ (x y : ℕ). I.Less x y (number_of (decimal b))) (number_read d h.0) (number_read a h.1.0) ∙ ap (λ (x : ℕ). I.Less d a x) (number_read b h.1.1.0)
instr_read text (I.Same d a b) name h = ap₂ (λ (x y : ℕ). I.Same x y (number_of (decimal b))) (number_read d h.0) (number_read a h.1.0) ∙ ap (λ (x : ℕ). I.Same d a x) (number_read b h.1.1.0)
instr_read text (I.Row d values) name h = ap₂ I.Row (number_read d h.0) (registers_read text values h.1)
instr_read text (I.Get d s n) name h = ap₂ (λ (x y : ℕ). I.Get x y (number_of (decimal n))) (number_read d h.0) (number_read s h.1.0) ∙ ap (λ (x : ℕ). I.Get d s x) (number_read n h.1.1.0)
instr_read text (I.Load d f) name h = ap₂ (λ (x y : ℕ). I.Load x y) (number_read d h.0) (number_read f h.1.0)
instr_read text (I.Store f s) name h = ap₂ (λ (x y : ℕ). I.Store x y) (number_read f h.0) (number_read s h.1.0)
instr_read text (I.Jump l) name h = refl
instr_read text (I.JumpZero a l) name h = ap (λ (x : ℕ). I.JumpZero x l) (number_read a h.0)
instr_read text (I.Label l) name h = refl
instr_read text I.Pin name h = refl
instr_read text I.Unpin name h = refl
instr_read text (I.New d k) name h = ap (λ (x : ℕ). I.New x k) (number_read d h.0)
instr_read text (I.Send to b values) name h = ap₂ (λ (x : ℕ) (xs : List ℕ). I.Send x b xs) (number_read to h.0) (registers_read text values h.1.1)
instr_read text (I.Print a) name h = ap (λ (x : ℕ). I.Print x) (number_read a h.0)
