-- What is read without a fault is what the lines say.
use Rattle.behaviour_text.proofs.Steps.{kept, end_read, line_read}
use Rattle.behaviour_text.proofs.Choices.{option_or_none, filter_first, push_grows, each_push, each_weaker}
use Rattle.std.proofs.Common.{◌≡◌, ◌≢◌, ℕ, ◌+◌, ◌<◌, ◌≤◌, Bool, true, false, cond, not, List, [], ◌∷◌, ◌++◌, length, map, filter, refl, ap, sym, ◌∙◌, subst, arith, Option, Some, None, IfSome, Result, Ok, Err, if◌then◌else◌, bytes_eq, slice_index_or, append_assoc, append-nil, zero, suc}
use Rattle.std.specs.List.{AllByRecursion, list_any}
use Rattle.text_lines.specs.Lines.{line_fault, lines_of}
use Rattle.behaviour_text.proofs.Said.{closed_said, Lines, so_far, so_far_at, item_said, on_place, inside_place}
use Rattle.behaviour_text.proofs.Known.{InstrKnown, BehaviourKnown, KindKnown, InKindKnown, InBehaviourKnown, OpenKnown, KnownAt, said_same, texts_kept, finds}
use Rattle.behaviour_code.specs.Names.{text_of}
use Rattle.behaviour_code.specs.declared.code.Behaviour.{Behaviour}
use Rattle.behaviour_code.specs.declared.code.Kind.{Kind}
use Rattle.behaviour_code.specs.declared.code.Program.{Program}
use Rattle.behaviour_code.specs.declared.instr.Instr.{Instr}
use Rattle.behaviour_text.specs.Faults.{body_fault, place_fault, word_fault, words_fault}
use Rattle.behaviour_text.specs.Items.{instr_of, name_place}
use Rattle.behaviour_text.specs.Reading.{start, place_of, close_kind_at, close_kind, with_kind, with_on, with_end, with_instr, intern_name, with_item, with_named, with_word, with_words, read_from, program_of, finish, read_text}
use Rattle.behaviour_text.specs.Table.{line_word, starts_with, shape_fault}
use Rattle.behaviour_text.specs.Text.{speaks, said_lines, AreClean, IsText}
use Rattle.behaviour_text.specs.Words.{words_of, word_at, number_at}
use Rattle.behaviour_text.specs.declared.place.Stage.{Stage}
use Rattle.behaviour_text.specs.declared.place.Stage.TheVariants.{Start, InKind, InBehaviour}
use Rattle.behaviour_text.specs.declared.reader.Reader.{Reader}
use Rattle.behaviour_text.specs.declared.table.LineWord.{LineWord}
use Rattle.behaviour_code.specs.declared.opcode.Opcode.{Opcode}
use Rattle.behaviour_text.specs.declared.table.LineWord.TheVariants as W
use Rattle.behaviour_code.specs.declared.opcode.Opcode.TheVariants as C
use Rattle.behaviour_text.specs.declared.errors.FaultKind.{FaultKind}
use Rattle.std.proofs.Common.{drop}
use Rattle.behaviour_code.specs.WellFormed.{name_in}
use Rattle.behaviour_text.proofs.Instructions.{if_some_weaker, row_unnamed}
use Rattle.behaviour_text.specs.Items.{register_of}

instr_weaker : (m n : ℕ) → m ≤ n → (i : Instr) → InstrKnown m i → InstrKnown n i
instr_weaker m n le i h = if_some_weaker (λ k. k < m) (λ k. k < n) (name_in i) (λ k less. omega arith) h

behaviour_weaker : (m n : ℕ) → m ≤ n → (b : Behaviour) → BehaviourKnown m b → BehaviourKnown n b
behaviour_weaker m n le b h = record { name = let a = h.name in omega arith; body = each_weaker (InstrKnown m) (InstrKnown n) b.body (instr_weaker m n le) h.body }

behaviours_weaker : (m n : ℕ) → m ≤ n → (bs : List Behaviour) → AllByRecursion (BehaviourKnown m) bs → AllByRecursion (BehaviourKnown n) bs
behaviours_weaker m n le bs h = each_weaker (BehaviourKnown m) (BehaviourKnown n) bs (behaviour_weaker m n le) h

kind_weaker : (m n : ℕ) → m ≤ n → (k : Kind) → KindKnown m k → KindKnown n k
kind_weaker m n le k h = record { name = let a = h.name in omega arith; behaviours = behaviours_weaker m n le k.behaviours h.behaviours }

in_kind_weaker : (m n : ℕ) → m ≤ n → (r : Reader) → InKindKnown m r → InKindKnown n r
in_kind_weaker m n le r h = record { name = let a = h.name in omega arith; behaviours = behaviours_weaker m n le r.behaviours h.behaviours }

in_behaviour_weaker : (m n : ℕ) → m ≤ n → (r : Reader) → InBehaviourKnown m r → InBehaviourKnown n r
in_behaviour_weaker m n le r h = record { name = let a = h.name in omega arith; body = each_weaker (InstrKnown m) (InstrKnown n) r.body (instr_weaker m n le) h.body }

open_weaker : (m n : ℕ) → m ≤ n → (r : Reader) (stage : Stage) → OpenKnown m r stage → OpenKnown n r stage
open_weaker m n le r Start h = tt
open_weaker m n le r InKind h = in_kind_weaker m n le r h
open_weaker m n le r InBehaviour h = (in_kind_weaker m n le r h.0, in_behaviour_weaker m n le r h.1)

known_weaker : (m n : ℕ) → m ≤ n → (r : Reader) → KnownAt m r r.stage → KnownAt n r r.stage
known_weaker m n le r h = (each_weaker (KindKnown m) (KindKnown n) r.kinds (kind_weaker m n le) h.0, open_weaker m n le r r.stage h.1)

-- the names of an item are known
pub closed_known : (m : ℕ) (r : Reader) (stage : Stage) → KnownAt m r stage → AllByRecursion (KindKnown m) (close_kind_at stage r).kinds
closed_known m r Start h = h.0
closed_known m r InKind h = each_push (KindKnown m) r.kinds _ h.0 (record { name = h.1.name; behaviours = h.1.behaviours })
closed_known m r InBehaviour h = each_push (KindKnown m) r.kinds _ h.0 (record { name = h.1.0.name; behaviours = h.1.0.behaviours })

instr_known : (m : ℕ) (code : Opcode) (name : ℕ) (ws : List (List ℕ)) → IfSome (name_place (W.Instr code)) (λ place. name < m) → InstrKnown m (instr_of code name ws)
unfolding instr_of
instr_known m C.Jump name ws h = h
instr_known m C.JumpZero name ws h = h
instr_known m C.Label name ws h = h
instr_known m C.New name ws h = h
instr_known m C.Send name ws h = h
instr_known m C.Row name ws h = subst (λ (o : Option ℕ). IfSome o (λ n. n < m)) (row_unnamed (map register_of (drop 1 ws))) tt
instr_known m _ name ws h = tt

with_instr_known : (m : ℕ) (r : Reader) (i : Instr) → r.stage ≡ InBehaviour → KnownAt m r r.stage → InstrKnown m i → KnownAt m (with_instr r i) (with_instr r i).stage
unfolding with_instr
with_instr_known m r i e h k =
    let at = subst (KnownAt m r) e h in
    let next : KnownAt m (record r { body = r.body ++ i ∷ [] }) InBehaviour =
    (at.0, (record { name = at.1.0.name; behaviours = at.1.0.behaviours }, record { name = at.1.1.name; body = each_push (InstrKnown m) r.body i at.1.1.body k })) in
    subst (KnownAt m (record r { body = r.body ++ i ∷ [] })) (sym e) next

item_known : (m : ℕ) (r : Reader) (word : LineWord) (name : ℕ) (ws : List (List ℕ)) → IfSome (name_place word) (λ place. name < m) → place_fault (place_of r) word ws ≡ None →
    KnownAt m r r.stage → KnownAt m (with_item r word name ws) (with_item r word name ws).stage
unfolding with_kind with_on with_end close_kind
item_known m r W.Kind name ws n place h = (closed_known m r r.stage h, record { name = n; behaviours = tt })
item_known m r W.On name ws n place h =
    let at = subst (KnownAt m r) (on_place r.stage (length r.behaviours) (number_at ws 1) place).0 h in
    (at.0, (record { name = at.1.name; behaviours = at.1.behaviours }, record { name = n; body = tt }))
item_known m r W.End name ws n place h =
    let at = subst (KnownAt m r) (inside_place r.stage None place) h in
    (at.0, record { name = at.1.0.name; behaviours = each_push (BehaviourKnown m) r.behaviours _ at.1.0.behaviours (record { name = at.1.1.name; body = at.1.1.body }) })
item_known m r (W.Instr code) name ws n place h =
    with_instr_known m r (instr_of code name ws) (inside_place r.stage (body_fault (length r.body)) place) h (instr_known m code name ws n)

-- a line's name is lettered_fault
record Numbers (names : List (List ℕ)) (place : Option ℕ) (ws : List (List ℕ)) (found : ℕ × List (List ℕ)) : Type 0 where
  same : (n : ℕ) → n < length names → text_of names n ≡ text_of found.1 n
  grown : length names ≤ length found.1
  there : IfSome place (λ p. slice_index_or found.1 found.0 [] ≡ word_at ws p)
  within : IfSome place (λ p. found.0 < length found.1)

numbers : (names : List (List ℕ)) (place : Option ℕ) (ws : List (List ℕ)) → Numbers names place ws (intern_name names place ws)
numbers names None ws = record { same = λ n h. refl; grown = omega arith; there = tt; within = tt }
numbers names (Some p) ws =
    let f = finds names (word_at ws p) in
    record {
      same = texts_kept names (word_at ws p);
      grown = push_grows (list_any (bytes_eq (word_at ws p)) names) names (word_at ws p);
      there = f.said;
      within = f.within;
    }

known_renamed : (m : ℕ) (r : Reader) (names : List (List ℕ)) (stage : Stage) → KnownAt m r stage → KnownAt m (record r { names = names }) stage
known_renamed m r names Start h = h
known_renamed m r names InKind h = (h.0, record { name = h.1.name; behaviours = h.1.behaviours })
known_renamed m r names InBehaviour h =
    (h.0, (record { name = h.1.0.name; behaviours = h.1.0.behaviours }, record { name = h.1.1.name; body = h.1.1.body }))

said_renamed : (text : ℕ → List ℕ) (r : Reader) (names : List (List ℕ)) (stage : Stage) → so_far_at text (record r { names = names }) stage ≡ so_far_at text r stage
said_renamed text r names Start = refl
said_renamed text r names InKind = refl
said_renamed text r names InBehaviour = refl

-- one line more: all names are known, and what was read says the line
pub record Says (r s : Reader) (lines : Lines) : Type 0 where
  pub known : KnownAt (length s.names) s s.stage
  pub said : so_far (text_of s.names) s ≡ so_far (text_of r.names) r ++ lines

word_sound : (r : Reader) (word : LineWord) (w : List ℕ) (ws : List (List ℕ)) → line_word w ≡ Some word → shape_fault word ws ≡ None → place_fault (place_of r) word ws ≡ None → KnownAt (length r.names) r r.stage →
    Says r (with_named r word (intern_name r.names (name_place word) ws) ws) ((w ∷ ws) ∷ [])
word_sound r word w ws e shape place h =
    let found = intern_name r.names (name_place word) ws in
    let n = numbers r.names (name_place word) ws in
    let renamed : Reader = record r { names = found.1 } in
    let names : (with_item renamed word found.0 ws).names ≡ found.1 = kept renamed word found.0 ws in
    let stays : KnownAt (length found.1) (with_item renamed word found.0 ws) (with_item renamed word found.0 ws).stage =
    item_known (length found.1) renamed word found.0 ws n.within place (known_renamed (length found.1) r found.1 r.stage (known_weaker (length r.names) (length found.1) n.grown r h)) in
    record {
      known = subst (λ (ns : List (List ℕ)). KnownAt (length ns) (with_item renamed word found.0 ws) (with_item renamed word found.0 ws).stage) (sym names) stays;
      said = ap (λ (ns : List (List ℕ)). so_far (text_of ns) (with_item renamed word found.0 ws)) names
          ∙ item_said (text_of found.1) renamed word found.0 w ws e shape place n.there
          ∙ ap (λ (t : Lines). t ++ (w ∷ ws) ∷ []) (said_renamed (text_of found.1) r found.1 r.stage)
          ∙ ap (λ (t : Lines). t ++ (w ∷ ws) ∷ []) (sym (said_same (length r.names) (text_of r.names) (text_of found.1) n.same r r.stage h));
    }

silent : (r : Reader) → KnownAt (length r.names) r r.stage → Says r r []
silent r h = record { known = h; said = sym (append-nil (so_far (text_of r.names) r)) }

found_sound : (r : Reader) (word : Option LineWord) (w : List ℕ) (ws : List (List ℕ)) → line_word w ≡ word → word_fault (place_of r) word ws ≡ None → KnownAt (length r.names) r r.stage →
    Says r (with_word r word ws) ((w ∷ ws) ∷ [])
found_sound r None w ws e fault h = cc
found_sound r (Some word) w ws e fault h =
    let parts = option_or_none (shape_fault word ws) (place_fault (place_of r) word ws) fault in word_sound r word w ws e parts.0 parts.1 h

spoken : (r : Reader) (b : Bool) (w : List ℕ) (ws : List (List ℕ)) → (if b then None else word_fault (place_of r) (line_word w) ws) ≡ None → KnownAt (length r.names) r r.stage →
    Says r (if b then r else with_word r (line_word w) ws) (cond (not b) ((w ∷ ws) ∷ []) [])
spoken r true w ws fault h = silent r h
spoken r false w ws fault h = found_sound r (line_word w) w ws refl fault h

pub words_sound : (r : Reader) (ws : List (List ℕ)) → words_fault (place_of r) ws ≡ None → KnownAt (length r.names) r r.stage → Says r (with_words r ws) (filter speaks (ws ∷ []))
unfolding words_fault with_words
words_sound r [] fault h = silent r h
words_sound r (w ∷ ws) fault h = spoken r (starts_with 35 w) w ws fault h

-- what is left at the end
pub record Reads (r s : Reader) (lines : List (List ℕ)) : Type 0 where
  pub says : Says r s (said_lines lines)
  pub clean : AllByRecursion (λ line. line_fault line ≡ None) lines
  pub ended : s.stage ≢ InBehaviour

pub read_sound : (n : ℕ) (r s : Reader) (lines : List (List ℕ)) → KnownAt (length r.names) r r.stage → read_from n r lines ≡ Ok s → Reads r s lines
read_sound n r s [] h e =
    let end = end_read n r s e in
    record {
      says = subst (λ (x : Reader). Says r x []) end.1 (silent r h);
      clean = tt;
      ended = subst (λ (x : Reader). x.stage ≢ InBehaviour) end.1 end.0;
    }
read_sound n r s (line ∷ lines) h e =
    let read = line_read n r s line lines e in
    let first = words_sound r (words_of line) read.words h in
    let rest = read_sound (n + 1) (with_words r (words_of line)) s lines first.known read.rest in
    record {
      says = record {
        known = rest.says.known;
        said = rest.says.said
            ∙ ap (λ (t : Lines). t ++ said_lines lines) first.said
            ∙ append_assoc (so_far (text_of r.names) r) (filter speaks (words_of line ∷ [])) (said_lines lines)
            ∙ ap (λ (t : Lines). so_far (text_of r.names) r ++ t) (filter_first speaks (words_of line) (map words_of lines));
      };
      clean = (read.clean, rest.clean);
      ended = rest.ended;
    }

each_all : (lines : List (List ℕ)) → AllByRecursion (λ line. line_fault line ≡ None) lines → AreClean lines
each_all [] h i d k = absurd (omega arith)
each_all (l ∷ ls) h zero d k = h.0
each_all (l ∷ ls) h (suc i) d k = each_all ls h.1 i d (omega arith)

read_done : (bytes : List ℕ) (p : Program) (read : Result Reader (ℕ × FaultKind)) → read_from 0 start (lines_of bytes) ≡ read → finish read ≡ Ok p → IsText bytes p
unfolding start close_kind
read_done bytes p (Err e) told h = cc
read_done bytes p (Ok s) told h =
    let reads = read_sound 0 start s (lines_of bytes) (tt, tt) told in
    let same : program_of s ≡ p = cc in
    subst (IsText bytes) same (record {
      clean = each_all (lines_of bytes) reads.clean;
      lines = sym (closed_said (text_of s.names) s s.stage reads.ended ∙ reads.says.said);
    })

-- what is read is the text's program
pub text_sound : (bytes : List ℕ) (p : Program) → read_text bytes ≡ Ok p → IsText bytes p
unfolding read_text
text_sound bytes p h = read_done bytes p (read_from 0 start (lines_of bytes)) refl h
