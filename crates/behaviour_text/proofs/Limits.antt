-- What is read keeps the limits.
use Rattle.behaviour_text.proofs.Steps.{end_read, line_read}
use Rattle.behaviour_text.proofs.Choices.{both, neither, option_or_none, no_fault, each_push}
use Rattle.std.proofs.Common.{◌≡◌, ℕ, ◌+◌, ◌<◌, ◌≤◌, ◌^◌, ◌&&◌, Bool, true, false, List, [], ◌∷◌, ◌++◌, length, drop, map, refl, sym, subst, arith, Option, Some, None, if◌then◌else◌, nat_lt, ltb-true, ltb-false, length-append, length-drop, Ok}
use Rattle.std.specs.List.{AllByRecursion}
use Rattle.std.specs.Str.Parse.{digits_value}
use Rattle.std.proofs.lemmas.List.{length-map}
use Rattle.behaviour_text.proofs.Shapes.{fits, enough}
use Rattle.behaviour_text.proofs.Said.{on_place, inside_place}
use Rattle.std.specs.Option.{unwrap_or}
use Rattle.behaviour_code.specs.WellFormed.{InstrFits}
use Rattle.behaviour_code.specs.declared.code.Behaviour.{Behaviour}
use Rattle.behaviour_code.specs.declared.code.Kind.{Kind}
use Rattle.behaviour_code.specs.declared.instr.Instr.{Instr}
use Rattle.behaviour_text.specs.Faults.{kind_fault, on_fault, inside_fault, body_fault, place_fault, word_fault, words_fault}
use Rattle.behaviour_text.specs.Items.{register_of, instr_of, name_place}
use Rattle.behaviour_text.specs.Reading.{kinds_begun, place_of, close_kind_at, close_kind, with_kind, with_on, with_end, with_instr, intern_name, with_item, with_word, with_words, read_from}
use Rattle.behaviour_text.specs.Table.{line_word, starts_with, fits_count, shape_fault}
use Rattle.behaviour_text.specs.Words.{words_of, has_numeral_form, word_at, number_of, number_at}
use Rattle.behaviour_text.specs.declared.place.Stage.{Stage}
use Rattle.behaviour_text.specs.declared.place.Stage.TheVariants.{Start, InKind, InBehaviour}
use Rattle.behaviour_text.specs.declared.reader.Reader.{Reader}
use Rattle.behaviour_text.specs.declared.table.LineWord.{LineWord}
use Rattle.behaviour_code.specs.declared.opcode.Opcode.{Opcode}
use Rattle.behaviour_text.specs.declared.table.LineWord.TheVariants as W
use Rattle.behaviour_code.specs.declared.opcode.Opcode.TheVariants as C
use Rattle.behaviour_text.specs.declared.errors.FaultKind.TheVariants as K
use Rattle.behaviour_code.specs.declared.operand.Operand.TheVariants as O
use Rattle.behaviour_code.specs.WellFormed.{OperandFits}

bound : (b : Bool) (n : ℕ) → unwrap_or (if b && nat_lt n (2 ^ 64) then Some n else None) 0 < 2 ^ 64
bound b n = by_test (b && nat_lt n (2 ^ 64)) refl
  where
    by_test : (c : Bool) → (b && nat_lt n (2 ^ 64)) ≡ c → unwrap_or (if c then Some n else None) 0 < 2 ^ 64
    by_test true e = ltb-true n (2 ^ 64) (both b (nat_lt n (2 ^ 64)) e).1
    by_test false e = omega arith

number_small : (w : List ℕ) → number_of w < 2 ^ 64
number_small w = bound (has_numeral_form w) (digits_value 10 w)

registers_small : (ws : List (List ℕ)) → AllByRecursion OperandFits (map O.Register (map register_of ws))
registers_small [] = tt
registers_small (w ∷ ws) = (number_small (drop 1 w), registers_small ws)

instr_small : (code : Opcode) (name : ℕ) (ws : List (List ℕ)) → fits_count (W.Instr code) (length ws) ≡ true → InstrFits (instr_of code name ws)
unfolding instr_of
instr_small C.Drop name ws h = ((omega arith, omega arith), (number_small (drop 1 (word_at ws 0)), tt))
instr_small C.Int name ws h = ((omega arith, omega arith), (number_small (drop 1 (word_at ws 0)), (number_small (word_at ws 1), tt)))
instr_small C.Own name ws h = ((omega arith, omega arith), (number_small (drop 1 (word_at ws 0)), tt))
instr_small C.Copy name ws h = ((omega arith, omega arith), (number_small (drop 1 (word_at ws 0)), (number_small (drop 1 (word_at ws 1)), tt)))
instr_small C.Add name ws h = ((omega arith, omega arith), (number_small (drop 1 (word_at ws 0)), (number_small (drop 1 (word_at ws 1)), (number_small (drop 1 (word_at ws 2)), tt))))
instr_small C.Row name ws h =
    let e = enough (W.Instr C.Row) (length ws) h in
    let values = map register_of (drop 1 ws) in
    let count : length (map O.Register values) + 1 ≡ length ws =
    omega (arith, length-map values O.Register, length-map (drop 1 ws) register_of, length-drop 1 ws) in
    ((omega arith, omega arith), (number_small (drop 1 (word_at ws 0)), registers_small (drop 1 ws)))
instr_small C.Get name ws h = ((omega arith, omega arith), (number_small (drop 1 (word_at ws 0)), (number_small (drop 1 (word_at ws 1)), (number_small (word_at ws 2), tt))))
instr_small C.Load name ws h = ((omega arith, omega arith), (number_small (drop 1 (word_at ws 0)), (number_small (drop 1 (word_at ws 1)), tt)))
instr_small C.Store name ws h = ((omega arith, omega arith), (number_small (drop 1 (word_at ws 0)), (number_small (drop 1 (word_at ws 1)), tt)))
instr_small C.Jump name ws h = ((omega arith, omega arith), (tt, tt))
instr_small C.JumpZero name ws h = ((omega arith, omega arith), (number_small (drop 1 (word_at ws 0)), (tt, tt)))
instr_small C.Label name ws h = ((omega arith, omega arith), (tt, tt))
instr_small C.Pin name ws h = ((omega arith, omega arith), tt)
instr_small C.Unpin name ws h = ((omega arith, omega arith), tt)
instr_small C.New name ws h = ((omega arith, omega arith), (number_small (drop 1 (word_at ws 0)), (tt, tt)))
instr_small C.Send name ws h =
    let e = enough (W.Instr C.Send) (length ws) h in
    let values = map register_of (drop 2 ws) in
    let count : length (map O.Register values) + 2 ≡ length ws =
    omega (arith, length-map values O.Register, length-map (drop 2 ws) register_of, length-drop 2 ws) in
    ((omega arith, omega arith), (number_small (drop 1 (word_at ws 0)), (tt, registers_small (drop 2 ws))))
instr_small C.Print name ws h = ((omega arith, omega arith), (number_small (drop 1 (word_at ws 0)), tt))
instr_small code name ws h = ((omega arith, omega arith), (number_small (drop 1 (word_at ws 0)), (number_small (drop 1 (word_at ws 1)), (number_small (drop 1 (word_at ws 2)), tt))))

pub record BehaviourSmall (b : Behaviour) : Type 0 where
  pub few : b.parameters ≤ 8
  pub short : length b.body ≤ 1024
  pub instrs : AllByRecursion InstrFits b.body

pub record KindSmall (k : Kind) : Type 0 where
  pub few : k.fields ≤ 8
  pub short : length k.behaviours ≤ 64
  pub each : AllByRecursion BehaviourSmall k.behaviours

pub record InKindSmall (r : Reader) (most : ℕ) : Type 0 where
  pub few : r.fields ≤ 8
  pub short : length r.behaviours ≤ most
  pub each : AllByRecursion BehaviourSmall r.behaviours
  pub room : length r.kinds ≤ 255

pub record InBehaviourSmall (r : Reader) : Type 0 where
  pub few : r.parameters ≤ 8
  pub short : length r.body ≤ 1024
  pub instrs : AllByRecursion InstrFits r.body

abbrev pub OpenSmall : Reader → Stage → Type 0
OpenSmall r Start = length r.kinds ≤ 255
OpenSmall r InKind = InKindSmall r 64
OpenSmall r InBehaviour = InKindSmall r 63 × InBehaviourSmall r

abbrev pub SmallAt : Reader → Stage → Type 0
SmallAt r stage = AllByRecursion KindSmall r.kinds × OpenSmall r stage

pub closed_small : (r : Reader) (stage : Stage) → SmallAt r stage → AllByRecursion KindSmall (close_kind_at stage r).kinds
closed_small r Start h = h.0
closed_small r InKind h = each_push KindSmall r.kinds _ h.0 (record { few = h.1.few; short = h.1.short; each = h.1.each })
closed_small r InBehaviour h = each_push KindSmall r.kinds _ h.0 (record { few = h.1.0.few; short = let s = h.1.0.short in omega arith; each = h.1.0.each })

closed_room : (r : Reader) (stage : Stage) (fields : ℕ) → kind_fault stage (kinds_begun stage (length r.kinds)) fields ≡ None → length (close_kind_at stage r).kinds ≤ 255
closed_room r InBehaviour fields h = cc
closed_room r Start fields h = ltb-false 255 (length r.kinds) (neither (nat_lt 255 (length r.kinds)) (nat_lt 8 fields) (no_fault _ K.TooMany h)).0
closed_room r InKind fields h =
    let few : length r.kinds + 1 ≤ 255 = ltb-false 255 (length r.kinds + 1) (neither (nat_lt 255 (length r.kinds + 1)) (nat_lt 8 fields) (no_fault _ K.TooMany h)).0 in
    omega (arith, length-append r.kinds (record { name = r.kind_name; fields = r.fields; behaviours = r.behaviours } ∷ []))

on_few : (stage : Stage) (behaviours parameters : ℕ) → on_fault stage behaviours parameters ≡ None → behaviours ≤ 63
on_few Start behaviours parameters h = cc
on_few InBehaviour behaviours parameters h = cc
on_few InKind behaviours parameters h = ltb-false 63 behaviours (neither (nat_lt 63 behaviours) (nat_lt 8 parameters) (no_fault _ K.TooMany h)).0

body_few : (stage : Stage) (n : ℕ) → inside_fault stage (body_fault n) ≡ None → n ≤ 1023
body_few Start n h = cc
body_few InKind n h = cc
body_few InBehaviour n h = ltb-false 1023 n (no_fault (nat_lt 1023 n) K.TooMany h)

with_instr_small : (r : Reader) (i : Instr) → r.stage ≡ InBehaviour → length r.body ≤ 1023 → InstrFits i → SmallAt r r.stage → SmallAt (with_instr r i) (with_instr r i).stage
unfolding with_instr
with_instr_small r i e few fits h =
    let at = subst (SmallAt r) e h in
    let next : SmallAt (record r { body = r.body ++ i ∷ [] }) InBehaviour = (
      at.0,
      (
        record { few = at.1.0.few; short = at.1.0.short; each = at.1.0.each; room = at.1.0.room },
        record { few = at.1.1.few; short = omega (arith, length-append r.body (i ∷ [])); instrs = each_push InstrFits r.body i at.1.1.instrs fits },
      ),
    ) in
    subst (SmallAt (record r { body = r.body ++ i ∷ [] })) (sym e) next

pub item_small : (r : Reader) (word : LineWord) (name : ℕ) (ws : List (List ℕ)) → shape_fault word ws ≡ None → place_fault (place_of r) word ws ≡ None → SmallAt r r.stage →
    SmallAt (with_item r word name ws) (with_item r word name ws).stage
unfolding with_kind with_on with_end close_kind
item_small r W.Kind name ws shape place h =
    (closed_small r r.stage h, record { few = omega arith; short = omega arith; each = tt; room = closed_room r r.stage (number_at ws 1) place })
item_small r W.On name ws shape place h =
    let few = on_few r.stage (length r.behaviours) (number_at ws 1) place in
    let at = subst (SmallAt r) (on_place r.stage (length r.behaviours) (number_at ws 1) place).0 h in
    (at.0, (record { few = at.1.few; short = few; each = at.1.each; room = at.1.room }, record { few = omega arith; short = omega arith; instrs = tt }))
item_small r W.End name ws shape place h =
    let at = subst (SmallAt r) (inside_place r.stage None place) h in
    let b : Behaviour = record { name = r.behaviour_name; parameters = r.parameters; body = r.body } in
    let short = at.1.0.short in
    (at.0, record { few = at.1.0.few; short = omega (arith, length-append r.behaviours (b ∷ [])); each = each_push BehaviourSmall r.behaviours b at.1.0.each (record { few = at.1.1.few; short = at.1.1.short; instrs = at.1.1.instrs }); room = at.1.0.room })
item_small r (W.Instr code) name ws shape place h =
    with_instr_small r (instr_of code name ws) (inside_place r.stage (body_fault (length r.body)) place) (body_few r.stage (length r.body) place)
    (instr_small code name ws (fits (W.Instr code) ws shape).0) h

small_renamed : (r : Reader) (names : List (List ℕ)) (stage : Stage) → SmallAt r stage → SmallAt (record r { names = names }) stage
small_renamed r names Start h = h
small_renamed r names InKind h = (h.0, record { few = h.1.few; short = h.1.short; each = h.1.each; room = h.1.room })
small_renamed r names InBehaviour h =
    (h.0, (record { few = h.1.0.few; short = h.1.0.short; each = h.1.0.each; room = h.1.0.room }, record { few = h.1.1.few; short = h.1.1.short; instrs = h.1.1.instrs }))

word_small : (r : Reader) (word : Option LineWord) (ws : List (List ℕ)) → word_fault (place_of r) word ws ≡ None → SmallAt r r.stage → SmallAt (with_word r word ws) (with_word r word ws).stage
word_small r None ws fault h = cc
word_small r (Some word) ws fault h =
    let parts = option_or_none (shape_fault word ws) (place_fault (place_of r) word ws) fault in
    let found = intern_name r.names (name_place word) ws in
    item_small (record r { names = found.1 }) word found.0 ws parts.0 parts.1 (small_renamed r found.1 r.stage h)

spoken_small : (r : Reader) (b : Bool) (word : Option LineWord) (ws : List (List ℕ)) → (if b then None else word_fault (place_of r) word ws) ≡ None → SmallAt r r.stage →
    SmallAt (if b then r else with_word r word ws) (if b then r else with_word r word ws).stage
spoken_small r true word ws fault h = h
spoken_small r false word ws fault h = word_small r word ws fault h

words_small : (r : Reader) (ws : List (List ℕ)) → words_fault (place_of r) ws ≡ None → SmallAt r r.stage → SmallAt (with_words r ws) (with_words r ws).stage
unfolding words_fault with_words
words_small r [] fault h = h
words_small r (w ∷ ws) fault h = spoken_small r (starts_with 35 w) (line_word w) ws fault h

pub read_small : (n : ℕ) (r s : Reader) (lines : List (List ℕ)) → SmallAt r r.stage → read_from n r lines ≡ Ok s → SmallAt s s.stage
read_small n r s [] h e = subst (λ (x : Reader). SmallAt x x.stage) (end_read n r s e).1 h
read_small n r s (line ∷ lines) h e =
    let read = line_read n r s line lines e in
    read_small (n + 1) (with_words r (words_of line)) s lines (words_small r (words_of line) read.words h) read.rest

pub closed_count : (r : Reader) (stage : Stage) → SmallAt r stage → length (close_kind_at stage r).kinds ≤ 256
closed_count r Start h = let room = h.1 in omega arith
closed_count r InKind h = let room = h.1.room in omega (arith, length-append r.kinds (record { name = r.kind_name; fields = r.fields; behaviours = r.behaviours } ∷ []))
closed_count r InBehaviour h = let room = h.1.0.room in omega (arith, length-append r.kinds (record { name = r.kind_name; fields = r.fields; behaviours = r.behaviours } ∷ []))
