-- A line without a fault is spelled as its item is.
use Rattle.behaviour_text.proofs.Choices.{both, chosen_none}
use Rattle.std.proofs.Common.{◌≡◌, ℕ, ◌+◌, ◌≤◌, ◌^◌, Bool, true, false, cond, List, [], ◌∷◌, ◌==◌, ◌&&◌, length, drop, map, find, refl, ap, ap₂, sym, ◌∙◌, subst, arith, Option, Some, None, IfSome, if◌then◌else◌, is_some, nat_lt, eqb-true, ltb-true, bytes_eq, decimal, codes, get_or, not, eq-eqb, min, ltb-false}
use Rattle.std.proofs.lemmas.Slice.Eq.{bytes_eq-Decides}
use Rattle.std.specs.Str.Parse.{digits_value}
use Rattle.std.proofs.lemmas.Fmt.{decimal-digits_value}
use Rattle.behaviour_text.proofs.Numerals.{own, digits_form}
use Rattle.behaviour_text.proofs.Shapes.{lowest_none, fits, enough}
use Rattle.std.specs.Option.{unwrap_or}
use Rattle.behaviour_text.specs.Items.{register_of, register_at, instr_of, name_place}
use Rattle.behaviour_text.specs.Reading.{intern_name}
use Rattle.behaviour_text.specs.Table.{word_spelling, all_words, line_word, word_operands, word_further, lettered_fault, operand_fault, operands_fault, shape_fault}
use Rattle.behaviour_text.specs.Text.{register, field, instr_words}
use Rattle.behaviour_text.specs.Words.{has_numeral_form, numeral, word_at, number_of, number_at}
use Rattle.behaviour_text.specs.declared.table.LineWord.{LineWord}
use Rattle.behaviour_code.specs.declared.opcode.Opcode.{Opcode}
use Rattle.behaviour_code.specs.declared.opcode.OperandKind.{OperandKind}
use Rattle.behaviour_text.specs.declared.table.LineWord.TheVariants as W
use Rattle.behaviour_code.specs.declared.opcode.Opcode.TheVariants as C
use Rattle.behaviour_code.specs.declared.opcode.OperandKind.TheVariants as P
use Rattle.behaviour_text.specs.declared.errors.FaultKind.{FaultKind}
use Rattle.behaviour_text.specs.declared.errors.FaultKind.TheVariants as K
use Rattle.behaviour_code.specs.declared.operand.Operand.TheVariants as O
use Rattle.behaviour_text.specs.Text.{operand_word}

-- numerals have one form
single : (ds : List ℕ) → has_numeral_form ds ≡ true → get_or ds 0 0 ≡ 48 → length ds ≡ 1
single [] h e = cc
single (d ∷ []) h e = refl
single (d ∷ c ∷ ds) h e =
    let a : not (d == 48) ≡ true = (both (not (d == 48)) _ h).0 in
    let b : (d == 48) ≡ true = eq-eqb d 48 e in
    cc

taken : (b : Bool) (n m : ℕ) → (if b then Some n else None) ≡ Some m → (b ≡ true) × (n ≡ m)
taken true n m h = (refl, cc)
taken false n m h = cc

pub numeral_again : (w : List ℕ) (n : ℕ) → numeral w ≡ Some n → decimal n ≡ w
numeral_again w n h =
    let t = taken (has_numeral_form w && nat_lt (digits_value 10 w) (2 ^ 64)) (digits_value 10 w) n h in
    let parts = both (has_numeral_form w) (nat_lt (digits_value 10 w) (2 ^ 64)) t.0 in
    let form = digits_form w parts.0 in
    subst (λ (m : ℕ). decimal m ≡ w) t.1 (decimal-digits_value own w form.0 form.1 (single w parts.0) (ltb-true (digits_value 10 w) (2 ^ 64) parts.1))

number_there : (w : List ℕ) (o : Option ℕ) → numeral w ≡ o → is_some o ≡ true → decimal (unwrap_or o 0) ≡ w
number_there w None e h = cc
number_there w (Some n) e h = numeral_again w n e

pub number_again : (w : List ℕ) → is_some (numeral w) ≡ true → decimal (number_of w) ≡ w
number_again w h = number_there w (numeral w) refl h

no_kinds : (a b : Bool) (k m : FaultKind) → if◌then◌else◌ {A = Option FaultKind} a (if b then None else Some k) (Some m) ≡ None → (a ≡ true) × (b ≡ true)
no_kinds true true k m h = (refl, refl)
no_kinds true false k m h = cc
no_kinds false b k m h = cc

pub numbered_again : (letter : ℕ) (w : List ℕ) → lettered_fault letter w ≡ None → letter ∷ decimal (register_of w) ≡ w
numbered_again letter [] h = cc
numbered_again letter (b ∷ bs) h =
    let parts = no_kinds (b == letter) (is_some (numeral bs)) K.BadNumber K.WrongOperands h in
    ap₂ (λ (x : ℕ) (xs : List ℕ). x ∷ xs) (sym (eqb-true b letter parts.0)) (number_again bs parts.1)

-- an operand as it is spelled
abbrev respell : OperandKind → List ℕ → List ℕ
respell P.Register w = register (register_of w)
respell P.Field w = field (register_of w)
respell P.Number w = decimal (number_of w)
respell P.Name w = w

abbrev respelled : List OperandKind → List (List ℕ) → List (List ℕ)
respelled wants [] = []
respelled [] (w ∷ ws) = respell P.Register w ∷ respelled [] ws
respelled (want ∷ wants) (w ∷ ws) = respell want w ∷ respelled wants ws

operand_again : (want : OperandKind) (w : List ℕ) → operand_fault want w ≡ None → respell want w ≡ w
operand_again P.Register w h = numbered_again 114 w h
operand_again P.Field w h = numbered_again 102 w h
operand_again P.Number w h = number_again w (chosen_none (is_some (numeral w)) None K.BadNumber h).0
operand_again P.Name w h = refl

operands_again : (wants : List OperandKind) (ws : List (List ℕ)) → operands_fault wants ws ≡ None → respelled wants ws ≡ ws
operands_again wants [] h = refl
operands_again [] (w ∷ ws) h =
    let parts = lowest_none (operand_fault P.Register w) (operands_fault [] ws) h in
    ap₂ (λ (x : List ℕ) (xs : List (List ℕ)). x ∷ xs) (operand_again P.Register w parts.0) (operands_again [] ws parts.1)
operands_again (want ∷ wants) (w ∷ ws) h =
    let parts = lowest_none (operand_fault want w) (operands_fault wants ws) h in
    ap₂ (λ (x : List ℕ) (xs : List (List ℕ)). x ∷ xs) (operand_again want w parts.0) (operands_again wants ws parts.1)

-- a list of so many words
none_of : (ws : List (List ℕ)) → length ws ≤ 0 → [] ≡ ws
none_of [] h = refl
none_of (w ∷ ws) h = absurd (omega arith)

one_of : (ws : List (List ℕ)) → 1 ≤ length ws → length ws ≤ 1 → word_at ws 0 ∷ [] ≡ ws
one_of [] h k = absurd (omega arith)
one_of (w ∷ ws) h k = ap (λ (xs : List (List ℕ)). w ∷ xs) (none_of ws (omega arith))

two_of : (ws : List (List ℕ)) → 2 ≤ length ws → length ws ≤ 2 → word_at ws 0 ∷ word_at ws 1 ∷ [] ≡ ws
two_of [] h k = absurd (omega arith)
two_of (w ∷ ws) h k = ap (λ (xs : List (List ℕ)). w ∷ xs) (one_of ws (omega arith) (omega arith))

three_of : (ws : List (List ℕ)) → 3 ≤ length ws → length ws ≤ 3 → word_at ws 0 ∷ word_at ws 1 ∷ word_at ws 2 ∷ [] ≡ ws
three_of [] h k = absurd (omega arith)
three_of (w ∷ ws) h k = ap (λ (xs : List (List ℕ)). w ∷ xs) (two_of ws (omega arith) (omega arith))

more_of : (ws : List (List ℕ)) → 2 ≤ length ws → word_at ws 0 ∷ word_at ws 1 ∷ drop 2 ws ≡ ws
more_of [] h = absurd (omega arith)
more_of (w ∷ []) h = absurd (omega arith)
more_of (w ∷ v ∷ ws) h = refl

registers_again : (text : ℕ → List ℕ) (ws : List (List ℕ)) → respelled [] ws ≡ map (operand_word text) (map O.Register (map register_of ws))
registers_again text [] = refl
registers_again text (w ∷ ws) = ap (λ (xs : List (List ℕ)). register (register_of w) ∷ xs) (registers_again text ws)

found : {X : Type 0} (p : X → Bool) (x y : X) (b : Bool) (rest : Option X) → p x ≡ b → cond b (Some x) rest ≡ Some y → (rest ≡ Some y → p y ≡ true) → p y ≡ true
found p x y true rest e h other = let same : x ≡ y = cc in subst (λ z. p z ≡ true) same e
found p x y false rest e h other = other h

find_passes : {X : Type 0} (p : X → Bool) (xs : List X) (y : X) → find p xs ≡ Some y → p y ≡ true
find_passes p [] y h = cc
find_passes p (x ∷ xs) y h = found p x y (p x) (find p xs) refl h (find_passes p xs y)

-- the first word is the operation's
pub word_spelled : (w : List ℕ) (word : LineWord) → line_word w ≡ Some word → word_spelling word ≡ w
unfolding line_word
word_spelled w word h = (bytes_eq-Decides (word_spelling word) w).0 (find_passes (λ (x : LineWord). bytes_eq (word_spelling x) w) all_words word h)

spelled_again : (text : ℕ → List ℕ) (code : Opcode) (name : ℕ) (ws : List (List ℕ)) → length (word_operands (W.Instr code)) ≤ length ws →
    length ws ≤ length (word_operands (W.Instr code)) + word_further (W.Instr code) →
    IfSome (name_place (W.Instr code)) (λ place. text name ≡ word_at ws place) →
    word_spelling (W.Instr code) ∷ respelled (word_operands (W.Instr code)) ws ≡ instr_words text (instr_of code name ws)
unfolding instr_of
spelled_again text C.Drop name ws h k intern_name = subst (λ (xs : List (List ℕ)). word_spelling (W.Instr C.Drop) ∷ respelled (word_operands (W.Instr C.Drop)) xs ≡ instr_words text (instr_of C.Drop name xs)) (one_of ws (omega arith) (omega arith)) refl
spelled_again text C.Int name ws h k intern_name = subst (λ (xs : List (List ℕ)). word_spelling (W.Instr C.Int) ∷ respelled (word_operands (W.Instr C.Int)) xs ≡ instr_words text (instr_of C.Int name xs)) (two_of ws (omega arith) (omega arith)) refl
spelled_again text C.Own name ws h k intern_name = subst (λ (xs : List (List ℕ)). word_spelling (W.Instr C.Own) ∷ respelled (word_operands (W.Instr C.Own)) xs ≡ instr_words text (instr_of C.Own name xs)) (one_of ws (omega arith) (omega arith)) refl
spelled_again text C.Copy name ws h k intern_name = subst (λ (xs : List (List ℕ)). word_spelling (W.Instr C.Copy) ∷ respelled (word_operands (W.Instr C.Copy)) xs ≡ instr_words text (instr_of C.Copy name xs)) (two_of ws (omega arith) (omega arith)) refl
spelled_again text C.Add name ws h k intern_name = subst (λ (xs : List (List ℕ)). word_spelling (W.Instr C.Add) ∷ respelled (word_operands (W.Instr C.Add)) xs ≡ instr_words text (instr_of C.Add name xs)) (three_of ws (omega arith) (omega arith)) refl
spelled_again text C.Load name ws h k intern_name = subst (λ (xs : List (List ℕ)). word_spelling (W.Instr C.Load) ∷ respelled (word_operands (W.Instr C.Load)) xs ≡ instr_words text (instr_of C.Load name xs)) (two_of ws (omega arith) (omega arith)) refl
spelled_again text C.Store name ws h k intern_name = subst (λ (xs : List (List ℕ)). word_spelling (W.Instr C.Store) ∷ respelled (word_operands (W.Instr C.Store)) xs ≡ instr_words text (instr_of C.Store name xs)) (two_of ws (omega arith) (omega arith)) refl
spelled_again text C.Print name ws h k intern_name = subst (λ (xs : List (List ℕ)). word_spelling (W.Instr C.Print) ∷ respelled (word_operands (W.Instr C.Print)) xs ≡ instr_words text (instr_of C.Print name xs)) (one_of ws (omega arith) (omega arith)) refl
spelled_again text C.Jump name ws h k intern_name =
    subst (λ (xs : List (List ℕ)). word_spelling (W.Instr C.Jump) ∷ respelled (word_operands (W.Instr C.Jump)) xs ≡ word_spelling (W.Instr C.Jump) ∷ word_at xs 0 ∷ []) (one_of ws (omega arith) (omega arith)) refl
    ∙ ap (λ (t : List ℕ). word_spelling (W.Instr C.Jump) ∷ t ∷ []) (sym intern_name)
spelled_again text C.JumpZero name ws h k intern_name =
    subst (λ (xs : List (List ℕ)). word_spelling (W.Instr C.JumpZero) ∷ respelled (word_operands (W.Instr C.JumpZero)) xs ≡ word_spelling (W.Instr C.JumpZero) ∷ register (register_at xs 0) ∷ word_at xs 1 ∷ []) (two_of ws (omega arith) (omega arith)) refl
    ∙ ap (λ (t : List ℕ). word_spelling (W.Instr C.JumpZero) ∷ register (register_at ws 0) ∷ t ∷ []) (sym intern_name)
spelled_again text C.Label name ws h k intern_name =
    subst (λ (xs : List (List ℕ)). word_spelling (W.Instr C.Label) ∷ respelled (word_operands (W.Instr C.Label)) xs ≡ word_spelling (W.Instr C.Label) ∷ word_at xs 0 ∷ []) (one_of ws (omega arith) (omega arith)) refl
    ∙ ap (λ (t : List ℕ). word_spelling (W.Instr C.Label) ∷ t ∷ []) (sym intern_name)
spelled_again text C.New name ws h k intern_name =
    subst (λ (xs : List (List ℕ)). word_spelling (W.Instr C.New) ∷ respelled (word_operands (W.Instr C.New)) xs ≡ word_spelling (W.Instr C.New) ∷ register (register_at xs 0) ∷ word_at xs 1 ∷ []) (two_of ws (omega arith) (omega arith)) refl
    ∙ ap (λ (t : List ℕ). word_spelling (W.Instr C.New) ∷ register (register_at ws 0) ∷ t ∷ []) (sym intern_name)
spelled_again text C.Row name ws h k intern_name =
    subst (λ (xs : List (List ℕ)). word_spelling (W.Instr C.Row) ∷ respelled (word_operands (W.Instr C.Row)) xs ≡ word_spelling (W.Instr C.Row) ∷ register (register_at xs 0) ∷ register (register_at xs 1) ∷ respelled [] (drop 2 xs)) (more_of ws (omega arith)) refl
    ∙ ap (λ (t : List (List ℕ)). word_spelling (W.Instr C.Row) ∷ register (register_at ws 0) ∷ register (register_at ws 1) ∷ t) (registers_again text (drop 2 ws))
    ∙ subst (λ (xs : List (List ℕ)). word_spelling (W.Instr C.Row) ∷ register (register_at xs 0) ∷ register (register_at xs 1) ∷ map (operand_word text) (map O.Register (map register_of (drop 2 xs))) ≡ instr_words text (instr_of C.Row name xs)) (more_of ws (omega arith)) refl
spelled_again text C.Send name ws h k intern_name =
    subst (λ (xs : List (List ℕ)). word_spelling (W.Instr C.Send) ∷ respelled (word_operands (W.Instr C.Send)) xs ≡ word_spelling (W.Instr C.Send) ∷ register (register_at xs 0) ∷ word_at xs 1 ∷ respelled [] (drop 2 xs)) (more_of ws (omega arith)) refl
    ∙ ap (λ (t : List (List ℕ)). word_spelling (W.Instr C.Send) ∷ register (register_at ws 0) ∷ word_at ws 1 ∷ t) (registers_again text (drop 2 ws))
    ∙ ap (λ (t : List ℕ). word_spelling (W.Instr C.Send) ∷ register (register_at ws 0) ∷ t ∷ map (operand_word text) (map O.Register (map register_of (drop 2 ws)))) (sym intern_name)
spelled_again text C.Pin name ws h k intern_name = subst (λ (xs : List (List ℕ)). word_spelling (W.Instr C.Pin) ∷ respelled [] xs ≡ codes "pin" ∷ []) (none_of ws (omega arith)) refl
spelled_again text C.Unpin name ws h k intern_name = subst (λ (xs : List (List ℕ)). word_spelling (W.Instr C.Unpin) ∷ respelled [] xs ≡ codes "unpin" ∷ []) (none_of ws (omega arith)) refl
spelled_again text code name ws h k intern_name = subst (λ (xs : List (List ℕ)). word_spelling (W.Instr code) ∷ respelled (word_operands (W.Instr code)) xs ≡ instr_words text (instr_of code name xs)) (three_of ws (omega arith) (omega arith)) refl

-- the words of an instruction without a fault
pub instr_again : (text : ℕ → List ℕ) (code : Opcode) (name : ℕ) (w : List ℕ) (ws : List (List ℕ)) → line_word w ≡ Some (W.Instr code) → shape_fault (W.Instr code) ws ≡ None →
    IfSome (name_place (W.Instr code)) (λ place. text name ≡ word_at ws place) → w ∷ ws ≡ instr_words text (instr_of code name ws)
instr_again text code name w ws e h intern_name =
    let f = fits (W.Instr code) ws h in
    let n = enough (W.Instr code) (length ws) f.0 in
    ap₂ (λ (x : List ℕ) (xs : List (List ℕ)). x ∷ xs) (sym (word_spelled w (W.Instr code) e)) (sym (operands_again (word_operands (W.Instr code)) ws f.1))
    ∙ spelled_again text code name ws n.0 n.1 intern_name

min_small : (n : ℕ) → nat_lt 8 n ≡ false → min n 8 ≡ n
min_small n h = let small : n ≤ 8 = ltb-false 8 n h in omega arith

-- the words of a line that begins a kind or a behaviour
pub begin_again : (text : ℕ → List ℕ) (word : LineWord) (name : ℕ) (w : List ℕ) (ws : List (List ℕ)) → word_operands word ≡ P.Name ∷ P.Number ∷ [] → word_further word ≡ 0 → line_word w ≡ Some word → shape_fault word ws ≡ None →
    text name ≡ word_at ws 0 → nat_lt 8 (number_at ws 1) ≡ false → w ∷ ws ≡ word_spelling word ∷ text name ∷ decimal (min (number_at ws 1) 8) ∷ []
begin_again text word name w ws wants none e h intern_name small =
    let f = fits word ws h in
    let n = enough word (length ws) f.0 in
    let wanted : length (word_operands word) ≡ 2 = ap length wants in
    let spelled : respelled (P.Name ∷ P.Number ∷ []) ws ≡ ws = operands_again (P.Name ∷ P.Number ∷ []) ws (subst (λ (xs : List OperandKind). operands_fault xs ws ≡ None) wants f.1) in
    ap₂ (λ (x : List ℕ) (xs : List (List ℕ)). x ∷ xs) (sym (word_spelled w word e)) (sym spelled)
    ∙ ap (λ (xs : List (List ℕ)). word_spelling word ∷ xs)
    (subst (λ (xs : List (List ℕ)). respelled (P.Name ∷ P.Number ∷ []) xs ≡ word_at xs 0 ∷ decimal (number_at xs 1) ∷ []) (two_of ws (omega arith) (omega arith)) refl)
    ∙ ap₂ (λ (t : List ℕ) (k : ℕ). word_spelling word ∷ t ∷ decimal k ∷ []) (sym intern_name) (sym (min_small (number_at ws 1) small))

pub end_again : (w : List ℕ) (ws : List (List ℕ)) → line_word w ≡ Some W.End → shape_fault W.End ws ≡ None → w ∷ ws ≡ codes "end" ∷ []
end_again w ws e h =
    let f = fits W.End ws h in
    let n = enough W.End (length ws) f.0 in
    ap₂ (λ (x : List ℕ) (xs : List (List ℕ)). x ∷ xs) (sym (word_spelled w W.End e)) (sym (none_of ws (omega arith)))
