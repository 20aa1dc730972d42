-- The place of the next line follows from the words of each line.
use Rattle.behaviour_text.proofs.Choices.{option_or_none}
use Rattle.std.proofs.Common.{min, ◌≡◌, ℕ, ◌+◌, Bool, true, false, List, [], ◌∷◌, length, refl, ap, ap₂, sym, ◌∙◌, Option, Some, None, Result, Ok, Err, if◌then◌else◌, length-append, option_map}
use Rattle.text_lines.specs.Lines.{lines_of, line_fault}
use Rattle.behaviour_text.proofs.Said.{on_place, inside_place}
use Rattle.std.specs.Option.{option_or, option_map_or}
use Rattle.behaviour_text.specs.Faults.{place_fault, word_fault, words_fault, lowest_fault, behind_word, place_after, end_fault, first_from, first_fault}
use Rattle.behaviour_text.specs.Items.{name_place}
use Rattle.behaviour_text.specs.Reading.{start, kinds_begun, place_of, close_kind_at, close_kind, with_kind, with_on, with_end, with_instr, intern_name, with_item, with_word, with_words, read_end, unless_fault, read_from, finish, read_text, fault_of}
use Rattle.behaviour_text.specs.Table.{line_word, starts_with, shape_fault}
use Rattle.behaviour_text.specs.Words.{words_of, number_at}
use Rattle.behaviour_text.specs.declared.place.Place.{Place}
use Rattle.behaviour_text.specs.declared.place.Stage.{Stage}
use Rattle.behaviour_text.specs.declared.place.Stage.TheVariants.{Start, InKind, InBehaviour}
use Rattle.behaviour_text.specs.declared.reader.Reader.{Reader}
use Rattle.behaviour_text.specs.declared.table.LineWord.{LineWord}
use Rattle.behaviour_text.specs.declared.table.LineWord.TheVariants as W
use Rattle.behaviour_text.specs.Kinds.{kind_of}
use Rattle.behaviour_text.specs.declared.errors.FaultKind.{FaultKind}

kind_begun : (r : Reader) (stage : Stage) (name n : ℕ) →
    place_of (record (close_kind_at stage r) { stage = InKind; kind_name = name; fields = n; behaviours = [] })
    ≡ record (place_of r) { stage = InKind; kinds = kinds_begun stage (length r.kinds) + 1; behaviours = 0 }
kind_begun r Start name n = refl
kind_begun r InKind name n =
    ap (λ (k : ℕ). let p : Place = record { stage = InKind; kinds = k + 1; behaviours = 0; instructions = length r.body } in p) (length-append r.kinds _)
kind_begun r InBehaviour name n =
    ap (λ (k : ℕ). let p : Place = record { stage = InKind; kinds = k + 1; behaviours = 0; instructions = length r.body } in p) (length-append r.kinds _)

-- an item moves the place
item_place : (r : Reader) (word : LineWord) (name : ℕ) (ws : List (List ℕ)) → place_fault (place_of r) word ws ≡ None →
    place_of (with_item r word name ws) ≡ behind_word (place_of r) word
unfolding with_kind with_on with_end with_instr close_kind
item_place r W.Kind name ws h = kind_begun r r.stage name (min (number_at ws 1) 8)
item_place r W.On name ws h =
    ap (λ (stage : Stage). let p : Place = record { stage = InBehaviour; kinds = kinds_begun stage (length r.kinds); behaviours = length r.behaviours; instructions = 0 } in p)
    (sym (on_place r.stage (length r.behaviours) (number_at ws 1) h).0)
item_place r W.End name ws h =
    ap₂ (λ (stage : Stage) (n : ℕ). let p : Place = record { stage = InKind; kinds = kinds_begun stage (length r.kinds); behaviours = n; instructions = 0 } in p)
    (sym (inside_place r.stage None h)) (length-append r.behaviours _)
item_place r (W.Instr code) name ws h =
    ap (λ (n : ℕ). let p : Place = record { stage = r.stage; kinds = kinds_begun r.stage (length r.kinds); behaviours = length r.behaviours; instructions = n } in p)
    (length-append r.body _)

word_place : (r : Reader) (word : Option LineWord) (ws : List (List ℕ)) → word_fault (place_of r) word ws ≡ None →
    place_of (with_word r word ws) ≡ option_map_or (behind_word (place_of r)) word (place_of r)
word_place r None ws h = refl
word_place r (Some word) ws h =
    let found = intern_name r.names (name_place word) ws in
    item_place (record r { names = found.1 }) word found.0 ws (option_or_none (shape_fault word ws) (place_fault (place_of r) word ws) h).1

spoken_place : (r : Reader) (b : Bool) (word : Option LineWord) (ws : List (List ℕ)) → (if b then None else word_fault (place_of r) word ws) ≡ None →
    place_of (if b then r else with_word r word ws) ≡ (if b then place_of r else option_map_or (behind_word (place_of r)) word (place_of r))
spoken_place r true word ws h = refl
spoken_place r false word ws h = word_place r word ws h

-- the reader's place follows
pub place_follows : (r : Reader) (ws : List (List ℕ)) → words_fault (place_of r) ws ≡ None → place_of (with_words r ws) ≡ place_after (place_of r) ws
unfolding words_fault with_words place_after
place_follows r [] h = refl
place_follows r (w ∷ ws) h = spoken_place r (starts_with 35 w) (line_word w) ws h

fault_at_end : (n : ℕ) (r : Reader) (stage : Stage) → fault_of (read_end n r stage) ≡ end_fault n stage
fault_at_end n r Start = refl
fault_at_end n r InKind = refl
fault_at_end n r InBehaviour = refl

fault_next : (n : ℕ) (fault : Option FaultKind) (read : Result Reader (ℕ × FaultKind)) (first : Option (ℕ × FaultKind)) → (fault ≡ None → fault_of read ≡ first) →
    fault_of (unless_fault n fault read) ≡ option_or (option_map (λ kind. (n, kind)) fault) first
fault_next n None read first h = h refl
fault_next n (Some kind) read first h = refl

-- reading ends with the first fault
read_fault : (n : ℕ) (r : Reader) (lines : List (List ℕ)) → fault_of (read_from n r lines) ≡ first_from n (place_of r) lines
unfolding read_from first_from lowest_fault
read_fault n r [] = fault_at_end n r r.stage
read_fault n r (line ∷ lines) =
    let rest = read_fault (n + 1) (with_words r (words_of line)) lines in
    fault_next (n + 1) (lowest_fault (place_of r) line) (read_from (n + 1) (with_words r (words_of line)) lines)
    (first_from (n + 1) (place_after (place_of r) (words_of line)) lines)
    (λ clean. rest ∙ ap (λ (place : Place). first_from (n + 1) place lines)
    (place_follows r (words_of line) (option_or_none (option_map kind_of (line_fault line)) (words_fault (place_of r) (words_of line)) clean).1))

fault_finished : (read : Result Reader (ℕ × FaultKind)) → fault_of (finish read) ≡ fault_of read
fault_finished (Ok r) = refl
fault_finished (Err fault) = refl

pub first_fault_read : (bytes : List ℕ) → fault_of (read_text bytes) ≡ first_fault bytes
unfolding read_text first_fault start
first_fault_read bytes = fault_finished (read_from 0 start (lines_of bytes)) ∙ read_fault 0 start (lines_of bytes)
