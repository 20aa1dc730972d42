-- The canonical text of a program is a text of it.
use Rattle.behaviour_text.proofs.Choices.{both, and_true, either, neither, or_right, or_false, each_append}
use Rattle.std.specs.Char.{is_ascii_alphanumeric, is_ascii_digit}
use Rattle.std.proofs.Common.{◌≡◌, ℕ, ◌+◌, ◌*◌, ◌<◌, ◌≤◌, ◌^◌, ◌||◌, ◌&&◌, ◌==◌, Bool, true, false, cond, not, List, [], ◌∷◌, ◌++◌, length, map, flat_map, filter, refl, ap, ap₂, sym, ◌∙◌, subst, arith, Option, Some, None, if◌then◌else◌, nat_le, leb-true, le-leb, le-ltb, eqb-true, ne_eqb, append-nil, append_assoc, length-append, decimal, zero, suc, All, inl, inr, Ok}
use Rattle.behaviour_text.proofs.Again.{again}
use Rattle.std.specs.List.{AllByRecursion, slice_split, list_any, list_all}
use Rattle.std.proofs.lemmas.List.Splits.{slice_split_at, slice_split_none, length-slice_split}
use Rattle.std.proofs.lemmas.Fmt.{digits_decimal, decimal_nonempty, length-decimal-le}
use Rattle.text_lines.specs.Lines.{lines_of, without_empty_last, line_fault, is_space, is_allowed}
use Rattle.text_lines.specs.declared.LineKind.{LineKind}
use Rattle.text_lines.specs.declared.LineKind.TheVariants.{NotAscii, LongLine}
use Rattle.text_lines.proofs.Splitting.{more_pieces}
use Rattle.behaviour_text.proofs.Numerals.{own}
use Rattle.behaviour_code.specs.WellFormed.{NameFits, InstrIsWellFormed, BehaviourIsWellFormed, KindIsWellFormed, IsWellFormed}
use Rattle.behaviour_code.specs.Names.{is_name_byte, is_name, text_of}
use Rattle.behaviour_code.specs.declared.code.Behaviour.{Behaviour}
use Rattle.behaviour_code.specs.declared.code.Kind.{Kind}
use Rattle.behaviour_code.specs.declared.code.Program.{Program}
use Rattle.behaviour_code.specs.declared.instr.Instr.{Instr}
use Rattle.behaviour_text.specs.Reading.{read_text}
use Rattle.behaviour_text.specs.Text.{register, field, instr_words, behaviour_begin, behaviour_end, kind_begin, behaviour_lines, kind_lines, program_lines, speaks, said_lines, AreClean, IsText, rest_of_line, line_of, canonical}
use Rattle.behaviour_text.specs.Words.{words_of, is_word}
use Rattle.behaviour_code.specs.declared.instr.Instr.TheVariants as I
use Rattle.std.proofs.Common.{IfSome}
use Rattle.behaviour_code.specs.declared.operand.Operand.{Operand}
use Rattle.behaviour_code.specs.declared.operand.Operand.TheVariants as O
use Rattle.behaviour_code.specs.declared.opcode.Opcode.{Opcode}
use Rattle.behaviour_code.specs.declared.opcode.Opcode.TheVariants as C
use Rattle.behaviour_code.specs.Opcodes.{spelling}
use Rattle.behaviour_code.specs.Operands.{opcode_of, operands_in}
use Rattle.behaviour_code.specs.WellFormed.{OperandFits, HasItsCount, named_by}
use Rattle.behaviour_text.proofs.Instructions.{names_all}
use Rattle.behaviour_text.proofs.Whole.{no_hash}
use Rattle.behaviour_text.specs.Text.{operand_word}
use Rattle.behaviour_text.specs.declared.table.LineWord.TheVariants as W

abbrev is_visible : ℕ → Bool
is_visible b = nat_le 33 b && nat_le b 126

record IsVisible (b : ℕ) : Type 0 where
  low : 33 ≤ b
  high : b ≤ 126

seen : (b : ℕ) → is_visible b ≡ true → IsVisible b
seen b h = let p = both (nat_le 33 b) (nat_le b 126) h in record { low = leb-true 33 b p.0; high = leb-true b 126 p.1 }

no_space : (b : ℕ) → IsVisible b → is_space b ≡ false
no_space b v =
    let low = v.low in
    or_false ((b == 9) || (b == 13)) (b == 32) (or_false (b == 9) (b == 13) (ne_eqb b 9 (λ e. omega arith)) (ne_eqb b 13 (λ e. omega arith))) (ne_eqb b 32 (λ e. omega arith))

visible_from : (b : ℕ) → 33 ≤ b → b ≤ 126 → is_visible b ≡ true
visible_from b low high = and_true (nat_le 33 b) (nat_le b 126) (le-leb 33 b low) (le-leb b 126 high)

allowed : (b : ℕ) → is_visible b ≡ true → not (is_allowed b) ≡ false
allowed b h = ap not (or_right (is_space b) (is_visible b) h)

-- a word that can be seen
record Word (w : List ℕ) : Type 0 where
  some : 0 < length w
  seen : list_all is_visible w ≡ true

no_spaces : (w : List ℕ) → list_all is_visible w ≡ true → All (λ x. is_space x ≡ false) w
no_spaces [] h i d k = absurd (omega arith)
no_spaces (b ∷ bs) h zero d k = no_space b (seen b (both _ _ h).0)
no_spaces (b ∷ bs) h (suc i) d k = no_spaces bs (both _ _ h).1 i d (omega arith)

-- a line without its line feed
abbrev rest_plain : List (List ℕ) → List ℕ
rest_plain [] = []
rest_plain (w ∷ ws) = 32 ∷ (w ++ rest_plain ws)

abbrev plain : List (List ℕ) → List ℕ
plain [] = []
plain (w ∷ ws) = w ++ rest_plain ws

rest_ends : (ws : List (List ℕ)) → rest_of_line ws ≡ rest_plain ws ++ 10 ∷ []
rest_ends [] = refl
rest_ends (w ∷ ws) = ap (λ (t : List ℕ). 32 ∷ t) (ap (λ (t : List ℕ). w ++ t) (rest_ends ws) ∙ sym (append_assoc w (rest_plain ws) (10 ∷ [])))

line_ends : (ws : List (List ℕ)) → line_of ws ≡ plain ws ++ 10 ∷ []
line_ends [] = refl
line_ends (w ∷ ws) = ap (λ (t : List ℕ). w ++ t) (rest_ends ws) ∙ sym (append_assoc w (rest_plain ws) (10 ∷ []))

some_kept : (w : List ℕ) → 0 < length w → is_word w ≡ true
some_kept [] h = absurd (omega arith)
some_kept (b ∷ bs) h = ap not (ne_eqb (length (b ∷ bs)) 0 (λ e. omega arith))

words_back : (w : List ℕ) (ws : List (List ℕ)) → Word w → AllByRecursion Word ws → filter is_word (slice_split is_space (w ++ rest_plain ws)) ≡ w ∷ ws
words_back w [] v vs =
    ap (filter is_word) (ap (slice_split is_space) (append-nil w) ∙ slice_split_none is_space w (no_spaces w v.seen))
    ∙ ap (λ (b : Bool). cond b (w ∷ []) []) (some_kept w v.some)
words_back w (x ∷ xs) v vs =
    ap (filter is_word) (slice_split_at is_space w 32 (x ++ rest_plain xs) (no_spaces w v.seen) refl)
    ∙ ap₂ (λ (b : Bool) (t : List (List ℕ)). cond b (w ∷ t) t) (some_kept w v.some) (words_back x xs vs.0 vs.1)

words_plain : (ws : List (List ℕ)) → AllByRecursion Word ws → words_of (plain ws) ≡ ws
words_plain [] h = refl
words_plain (w ∷ ws) h = words_back w ws h.0 h.1

-- no byte of a line is foreign, or a line feed
any_append : (p : ℕ → Bool) (xs ys : List ℕ) → list_any p xs ≡ false → list_any p ys ≡ false → list_any p (xs ++ ys) ≡ false
any_append p [] ys h k = k
any_append p (x ∷ xs) ys h k = let n = neither (p x) (list_any p xs) h in or_false (p x) (list_any p (xs ++ ys)) n.0 (any_append p xs ys n.1 k)

none_in : (p : ℕ → Bool) (w : List ℕ) → ((b : ℕ) → is_visible b ≡ true → p b ≡ false) → list_all is_visible w ≡ true → list_any p w ≡ false
none_in p [] f h = refl
none_in p (b ∷ bs) f h = or_false (p b) (list_any p bs) (f b (both _ _ h).0) (none_in p bs f (both _ _ h).1)

none_in_rest : (p : ℕ → Bool) (ws : List (List ℕ)) → p 32 ≡ false → ((b : ℕ) → is_visible b ≡ true → p b ≡ false) → AllByRecursion Word ws → list_any p (rest_plain ws) ≡ false
none_in_rest p [] s f h = refl
none_in_rest p (w ∷ ws) s f h = or_false (p 32) (list_any p (w ++ rest_plain ws)) s (any_append p w (rest_plain ws) (none_in p w f h.0.seen) (none_in_rest p ws s f h.1))

none_in_line : (p : ℕ → Bool) (ws : List (List ℕ)) → p 32 ≡ false → ((b : ℕ) → is_visible b ≡ true → p b ≡ false) → AllByRecursion Word ws → list_any p (plain ws) ≡ false
none_in_line p [] s f h = refl
none_in_line p (w ∷ ws) s f h = any_append p w (rest_plain ws) (none_in p w f h.0.seen) (none_in_rest p ws s f h.1)

any_none : (xs : List ℕ) → list_any (λ b. b == 10) xs ≡ false → All (λ x. (x == 10) ≡ false) xs
any_none [] h i d k = absurd (omega arith)
any_none (x ∷ xs) h zero d k = (neither (x == 10) (list_any (λ b. b == 10) xs) h).0
any_none (x ∷ xs) h (suc i) d k = any_none xs (neither (x == 10) (list_any (λ b. b == 10) xs) h).1 i d (omega arith)

-- the length of a line
abbrev room : List (List ℕ) → ℕ
room [] = 0
room (w ∷ ws) = length w + (1 + room ws)

rest_length : (ws : List (List ℕ)) → length (rest_plain ws) ≤ room ws
rest_length [] = omega arith
rest_length (w ∷ ws) = let r = rest_length ws in omega (arith, length-append w (rest_plain ws))

plain_length : (ws : List (List ℕ)) → length (plain ws) ≤ room ws
plain_length [] = omega arith
plain_length (w ∷ ws) = let r = rest_length ws in omega (arith, length-append w (rest_plain ws))

-- a line of a program
record Line (ws : List (List ℕ)) : Type 0 where
  words : AllByRecursion Word ws
  short : room ws ≤ 256
  speaks : speaks ws ≡ true

line_clean : (ws : List (List ℕ)) → Line ws → line_fault (plain ws) ≡ None
line_clean ws h =
    let short = h.short in
    let long = plain_length ws in
    ap₂ (λ (a b : Bool). if◌then◌else◌ {A = Option LineKind} a (Some NotAscii) (if b then Some LongLine else None))
    (none_in_line (λ b. not (is_allowed b)) ws refl allowed h.words) (le-ltb 256 (length (plain ws)) (omega arith))

no_feed : (b : ℕ) → is_visible b ≡ true → (b == 10) ≡ false
no_feed b h = let low = (seen b h).low in ne_eqb b 10 (λ e. omega arith)

lines_back : (lss : List (List (List ℕ))) → AllByRecursion Line lss → lines_of (flat_map line_of lss) ≡ map plain lss
lines_back [] h = refl
lines_back (ws ∷ lss) h =
    let rest = flat_map line_of lss in
    let whole : line_of ws ++ rest ≡ plain ws ++ 10 ∷ rest = ap (λ (t : List ℕ). t ++ rest) (line_ends ws) ∙ append_assoc (plain ws) (10 ∷ []) rest in
    ap lines_of whole
    ∙ ap without_empty_last (slice_split_at (λ b. b == 10) (plain ws) 10 rest (any_none (plain ws) (none_in_line (λ b. b == 10) ws refl no_feed h.0.words)) refl)
    ∙ more_pieces (plain ws) (slice_split (λ b. b == 10) rest) (omega (arith, length-slice_split (λ b. b == 10) rest))
    ∙ ap (λ (t : List (List ℕ)). plain ws ∷ t) (lines_back lss h.1)

said_back : (lss : List (List (List ℕ))) → AllByRecursion Line lss → said_lines (map plain lss) ≡ lss
said_back [] h = refl
said_back (ws ∷ lss) h =
    ap₂ (λ (x : List (List ℕ)) (t : List (List (List ℕ))). cond (speaks x) (x ∷ t) t) (words_plain ws h.0.words) (said_back lss h.1)
    ∙ ap (λ (b : Bool). cond b (ws ∷ lss) lss) h.0.speaks

clean_back : (lss : List (List (List ℕ))) → AllByRecursion Line lss → AreClean (map plain lss)
clean_back [] h i d k = absurd (omega arith)
clean_back (ws ∷ lss) h zero d k = line_clean ws h.0
clean_back (ws ∷ lss) h (suc i) d k = clean_back lss h.1 i d (omega arith)

-- the words of a program
seen_digits : (ds : List ℕ) → list_all is_ascii_digit ds ≡ true → list_all is_visible ds ≡ true
seen_digits [] h = refl
seen_digits (d ∷ ds) h =
    let p = both (nat_le 48 d) (nat_le d 57) (both _ _ h).0 in
    let low : 48 ≤ d = leb-true 48 d p.0 in
    let high : d ≤ 57 = leb-true d 57 p.1 in
    and_true (is_visible d) (list_all is_visible ds) (visible_from d (omega arith) (omega arith)) (seen_digits ds (both _ _ h).1)

decimal_word : (n : ℕ) → n < 2 ^ 64 → Word (decimal n)
decimal_word n h = record { some = decimal_nonempty n h; seen = seen_digits (decimal n) (digits_decimal own n h) }

decimal_short : (n : ℕ) → n < 2 ^ 64 → length (decimal n) ≤ 20
decimal_short n h = length-decimal-le 20 n (omega arith) (omega arith) h

register_word : (n : ℕ) → n < 2 ^ 64 → Word (register n)
register_word n h = record { some = omega arith; seen = (decimal_word n h).seen }

field_word : (n : ℕ) → n < 2 ^ 64 → Word (field n)
field_word n h = record { some = omega arith; seen = (decimal_word n h).seen }

seen_name_byte : (b : ℕ) → is_name_byte b ≡ true → is_visible b ≡ true
seen_name_byte b h =
    elim (either (is_ascii_alphanumeric b) (b == 95) h) [
      | inl front ↦ elim (either ((nat_le 48 b && nat_le b 57) || (nat_le 65 b && nat_le b 90)) (nat_le 97 b && nat_le b 122) front) [
        | inl first ↦ elim (either (nat_le 48 b && nat_le b 57) (nat_le 65 b && nat_le b 90) first) [
          | inl digit ↦ within 48 57 digit (omega arith) (omega arith)
          | inr capital ↦ within 65 90 capital (omega arith) (omega arith)
        ]
        | inr letter ↦ within 97 122 letter (omega arith) (omega arith)
      ]
      | inr under ↦ let same : b ≡ 95 = eqb-true b 95 under in visible_from b (omega arith) (omega arith)
    ]
  where
    within : (low high : ℕ) → (nat_le low b && nat_le b high) ≡ true → 33 ≤ low → high ≤ 126 → is_visible b ≡ true
    within low high k l m =
        let p = both (nat_le low b) (nat_le b high) k in
        let a : low ≤ b = leb-true low b p.0 in
        let c : b ≤ high = leb-true b high p.1 in
        visible_from b (omega arith) (omega arith)

seen_name : (w : List ℕ) → list_all is_name_byte w ≡ true → list_all is_visible w ≡ true
seen_name [] h = refl
seen_name (b ∷ bs) h = and_true (is_visible b) (list_all is_visible bs) (seen_name_byte b (both _ _ h).0) (seen_name bs (both _ _ h).1)

record NameWord (w : List ℕ) : Type 0 where
  word : Word w
  short : length w ≤ 32

name_word : (w : List ℕ) → is_name w ≡ true → NameWord w
name_word w h =
    let a = both (nat_le 1 (length w) && nat_le (length w) 32) (list_all is_name_byte w) h in
    let b = both (nat_le 1 (length w)) (nat_le (length w) 32) a.0 in
    let some : 1 ≤ length w = leb-true 1 (length w) b.0 in
    record { word = record { some = omega arith; seen = seen_name w a.1 }; short = leb-true (length w) 32 b.1 }

-- how long the word of an operand may be, and those of operands with a space before each
abbrev widest : Operand → ℕ
widest (O.Register n) = 21
widest (O.Field n) = 21
widest (O.Number n) = 20
widest (O.Name name) = 32

abbrev widths : List Operand → ℕ
widths [] = 0
widths (o ∷ os) = widest o + (1 + widths os)

-- the word of an operand
record OperandLine (text : ℕ → List ℕ) (o : Operand) : Type 0 where
  word : Word (operand_word text o)
  short : length (operand_word text o) ≤ widest o

operand_line : (all : List (List ℕ)) (o : Operand) → OperandFits o → IfSome (named_by o) (NameFits all) → OperandLine (text_of all) o
operand_line all (O.Register n) h good = let s = decimal_short n h in record { word = register_word n h; short = omega arith }
operand_line all (O.Field n) h good = let s = decimal_short n h in record { word = field_word n h; short = omega arith }
operand_line all (O.Number n) h good = record { word = decimal_word n h; short = decimal_short n h }
operand_line all (O.Name name) h good = let w = name_word (text_of all name) good.form in record { word = w.word; short = w.short }

record OperandsLine (text : ℕ → List ℕ) (os : List Operand) : Type 0 where
  words : AllByRecursion Word (map (operand_word text) os)
  short : room (map (operand_word text) os) ≤ widths os

operands_line : (all : List (List ℕ)) (os : List Operand) → AllByRecursion OperandFits os → AllByRecursion (λ o. IfSome (named_by o) (NameFits all)) os → OperandsLine (text_of all) os
operands_line all [] h good = record { words = tt; short = omega arith }
operands_line all (o ∷ os) h good =
    let first = operand_line all o h.0 good.0 in
    let rest = operands_line all os h.1 good.1 in
    let a = first.short in
    let b = rest.short in
    record { words = (first.word, rest.words); short = omega arith }

widths_behind : (ns : List ℕ) → widths (map O.Register ns) ≡ 22 * length (map O.Register ns)
widths_behind [] = refl
widths_behind (n ∷ ns) = let r = widths_behind ns in omega arith

-- an operation's word
record SpelledWell (code : Opcode) : Type 0 where
  some : 0 < length (spelling code)
  seen : list_all is_visible (spelling code) ≡ true
  short : length (spelling code) ≤ 5

spelled_well : (code : Opcode) → SpelledWell code
spelled_well C.Drop = record { some = omega arith; seen = refl; short = omega arith }
spelled_well code = record { some = omega arith; seen = refl; short = omega arith }

few_widths : (i : Instr) → HasItsCount i → widths (operands_in i) ≤ 250
few_widths (I.Drop d) h = omega arith
few_widths (I.Row d values) h = let most = h.1 in omega (arith, widths_behind values)
few_widths (I.Send to b values) h = let most = h.1 in omega (arith, widths_behind values)
few_widths i h = omega arith

instr_line : (all : List (List ℕ)) (i : Instr) → InstrIsWellFormed all i → Line (instr_words (text_of all) i)
instr_line all i g =
    let w = spelled_well (opcode_of i) in
    let line = operands_line all (operands_in i) g.fits.1 (names_all (NameFits all) i g.named) in
    let a = w.short in
    let b = line.short in
    let c = few_widths i g.fits.0 in
    record {
      words = (record { some = w.some; seen = w.seen }, line.words);
      short = omega arith;
      speaks = ap not (no_hash (W.Instr (opcode_of i)));
    }

end_line : Line behaviour_end
end_line = record { words = (record { some = omega arith; seen = refl }, tt); short = omega arith; speaks = refl }

body_lines : (all : List (List ℕ)) (is : List Instr) → AllByRecursion (InstrIsWellFormed all) is → AllByRecursion Line (map (instr_words (text_of all)) is)
body_lines all [] h = tt
body_lines all (i ∷ is) h = (instr_line all i h.0, body_lines all is h.1)

begin_on : (all : List (List ℕ)) (name : ℕ) (n : ℕ) → NameFits all name → n ≤ 8 → Line (behaviour_begin (text_of all) name n)
begin_on all name n fits small =
    let w = name_word (text_of all name) fits.form in
    let s = w.short in
    let d = decimal_short n (omega arith) in
    record { words = (record { some = omega arith; seen = refl }, (w.word, (decimal_word n (omega arith), tt))); short = omega arith; speaks = refl }

begin_kind : (all : List (List ℕ)) (name : ℕ) (n : ℕ) → NameFits all name → n ≤ 8 → Line (kind_begin (text_of all) name n)
begin_kind all name n fits small =
    let w = name_word (text_of all name) fits.form in
    let s = w.short in
    let d = decimal_short n (omega arith) in
    record { words = (record { some = omega arith; seen = refl }, (w.word, (decimal_word n (omega arith), tt))); short = omega arith; speaks = refl }

behaviours_lines : (all : List (List ℕ)) (bs : List Behaviour) → AllByRecursion (BehaviourIsWellFormed all) bs → AllByRecursion Line (flat_map (behaviour_lines (text_of all)) bs)
behaviours_lines all [] h = tt
behaviours_lines all (b ∷ bs) h =
    each_append Line (behaviour_lines (text_of all) b) (flat_map (behaviour_lines (text_of all)) bs)
    (begin_on all b.name b.parameters h.0.named h.0.parameters, each_append Line (map (instr_words (text_of all)) b.body) (behaviour_end ∷ []) (body_lines all b.body h.0.body) (end_line, tt))
    (behaviours_lines all bs h.1)

kinds_lines : (all : List (List ℕ)) (ks : List Kind) → AllByRecursion (KindIsWellFormed all) ks → AllByRecursion Line (flat_map (kind_lines (text_of all)) ks)
kinds_lines all [] h = tt
kinds_lines all (k ∷ ks) h =
    each_append Line (kind_lines (text_of all) k) (flat_map (kind_lines (text_of all)) ks)
    (begin_kind all k.name k.fields h.0.named h.0.fields, behaviours_lines all k.behaviours h.0.behaviours) (kinds_lines all ks h.1)

-- the canonical text of a program is a text of it
pub canonical_text : (p : Program) → IsWellFormed p → IsText (canonical p) p
canonical_text p good =
    let lines = kinds_lines p.names p.kinds good.kinds in
    let same = lines_back (program_lines p) lines in
    record {
      clean = subst AreClean (sym same) (clean_back (program_lines p) lines);
      lines = ap said_lines same ∙ said_back (program_lines p) lines;
    }

-- its text is read as that program
pub canonical_read : (p : Program) → IsWellFormed p → read_text (canonical p) ≡ Ok p
canonical_read p good = again (canonical p) p (canonical_text p good) good

-- the text of no other program
pub canonical_only : (p q : Program) → IsWellFormed p → IsText (canonical p) q → IsWellFormed q → q ≡ p
canonical_only p q good text other = let same : Ok q ≡ Ok p = sym (again (canonical p) q text other) ∙ canonical_read p good in cc
