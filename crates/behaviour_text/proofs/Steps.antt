-- One line more.
use Rattle.behaviour_text.proofs.Choices.{option_or_none}
use Rattle.std.proofs.Common.{option_map, ◌≡◌, ◌≢◌, ℕ, ◌+◌, ◌<◌, ◌≤◌, Bool, true, false, List, [], ◌∷◌, ◌++◌, length, drop, get_or, map, refl, ap, sym, ◌∙◌, subst, arith, Option, Some, None, Result, Ok, Err, if◌then◌else◌, bytes_eq, slice_range, zero, suc, length-append, add-one, drop_of_length-le}
use Rattle.std.specs.List.{list_any}
use Rattle.std.proofs.lemmas.List.{length-map}
use Rattle.text_lines.specs.Lines.{lines_of, line_at, with_fault, line_fault}
use Rattle.text_lines.specs.declared.LineSpan.{LineSpan}
use Rattle.text_lines.specs.declared.LineKind.{LineKind}
use Rattle.std.specs.Option.{option_or}
use Rattle.behaviour_code.specs.declared.code.Program.{Program}
use Rattle.behaviour_text.specs.Faults.{words_fault, lowest_fault, Tells}
use Rattle.behaviour_text.specs.Items.{name_place}
use Rattle.behaviour_text.specs.Reading.{start, place_of, close_kind_at, close_kind, with_kind, with_on, with_end, with_instr, intern_name, with_item, with_word, with_words, LineTaken, read_end, unless_fault, read_from, program_of, finish, read_text, fault_of}
use Rattle.behaviour_text.specs.Table.{line_word, starts_with}
use Rattle.behaviour_text.specs.Words.{words_of, word_at}
use Rattle.behaviour_text.specs.declared.errors.TextErr.{TextErr}
use Rattle.behaviour_text.specs.declared.place.Stage.{Stage}
use Rattle.behaviour_text.specs.declared.place.Stage.TheVariants.{Start, InKind, InBehaviour}
use Rattle.behaviour_text.specs.declared.reader.Reader.{Reader}
use Rattle.behaviour_text.specs.declared.table.LineWord.{LineWord}
use Rattle.behaviour_text.specs.declared.table.LineWord.TheVariants as W
use Rattle.behaviour_text.specs.declared.errors.TextErr.TheVariants as E
use Rattle.behaviour_text.specs.Kinds.{kind_of}
use Rattle.behaviour_text.specs.declared.errors.FaultKind.{FaultKind}

kept_at : (s : Stage) (r : Reader) → (close_kind_at s r).names ≡ r.names
kept_at Start r = refl
kept_at InKind r = refl
kept_at InBehaviour r = refl

pub kept : (r : Reader) (word : LineWord) (name : ℕ) (ws : List (List ℕ)) → (with_item r word name ws).names ≡ r.names
unfolding with_kind with_on with_end with_instr close_kind
kept r W.Kind name ws = kept_at r.stage r
kept r W.On name ws = refl
kept r W.End name ws = refl
kept r _ name ws = refl

one_more : (b : Bool) (names : List (List ℕ)) (text : List ℕ) → length (if b then names else names ++ text ∷ []) ≤ length names + 1
one_more true names text = omega arith
one_more false names text = omega (arith, length-append names (text ∷ []))

named_few : (names : List (List ℕ)) (place : Option ℕ) (ws : List (List ℕ)) → length (intern_name names place ws).1 ≤ length names + 1
named_few names None ws = omega arith
named_few names (Some p) ws = one_more (list_any (bytes_eq (word_at ws p)) names) names (word_at ws p)

word_few : (r : Reader) (word : Option LineWord) (ws : List (List ℕ)) → length (with_word r word ws).names ≤ length r.names + 1
word_few r None ws = omega arith
word_few r (Some word) ws =
    let n = intern_name r.names (name_place word) ws in
    omega (arith, named_few r.names (name_place word) ws, ap length (kept (record r { names = n.1 }) word n.0 ws))

chosen_few : (b : Bool) (r s : Reader) → length s.names ≤ length r.names + 1 → length (if b then r else s).names ≤ length r.names + 1
chosen_few true r s h = omega arith
chosen_few false r s h = h

pub few_more : (r : Reader) (ws : List (List ℕ)) → length (with_words r ws).names ≤ length r.names + 1
unfolding with_words
few_more r [] = omega arith
few_more r (w ∷ ws) = chosen_few (starts_with 35 w) r (with_word r (line_word w) ws) (word_few r (line_word w) ws)

pub taken : (n : ℕ) (r : Reader) (line : List ℕ) (lines : List (List ℕ)) → lowest_fault (place_of r) line ≡ None →
    read_from n r (line ∷ lines) ≡ read_from (n + 1) (with_words r (words_of line)) lines
unfolding read_from
taken n r line lines h = ap (λ (f : Option FaultKind). unless_fault (n + 1) f (read_from (n + 1) (with_words r (words_of line)) lines)) h

pub refused : (n : ℕ) (r : Reader) (line : List ℕ) (lines : List (List ℕ)) (kind : FaultKind) → lowest_fault (place_of r) line ≡ Some kind →
    read_from n r (line ∷ lines) ≡ Err (n + 1, kind)
unfolding read_from
refused n r line lines kind h = ap (λ (f : Option FaultKind). unless_fault (n + 1) f (read_from (n + 1) (with_words r (words_of line)) lines)) h

-- the line at a span
pub record IsNext (bytes : List ℕ) (lines : List (List ℕ)) (i : ℕ) (span : LineSpan) : Type 0 where
  pub line : drop i lines ≡ slice_range bytes span.from span.to ∷ drop (i + 1) lines
  pub fault : span.fault ≡ line_fault (slice_range bytes span.from span.to)

pub next_at : (bytes : List ℕ) (spans : List LineSpan) (lines : List (List ℕ)) (i : ℕ) (d : LineSpan) →
    map (line_at bytes) spans ≡ map with_fault lines → i < length spans → IsNext bytes lines i (get_or spans i d)
next_at bytes [] lines i d e h = absurd (omega arith)
next_at bytes (s ∷ ss) [] i d e h = cc
next_at bytes (s ∷ ss) (l ∷ ls) zero d e h =
    let head : (slice_range bytes s.from s.to, s.fault) ≡ (l, line_fault l) = cc in
    let line : slice_range bytes s.from s.to ≡ l = ap (λ (p : List ℕ × Option LineKind). p.0) head in
    let fault : s.fault ≡ line_fault l = ap (λ (p : List ℕ × Option LineKind). p.1) head in
    record { line = ap (λ (x : List ℕ). x ∷ ls) (sym line); fault = fault ∙ ap line_fault (sym line) }
next_at bytes (s ∷ ss) (l ∷ ls) (suc i) d e h =
    let tail : map (line_at bytes) ss ≡ map with_fault ls = cc in
    let next = next_at bytes ss ls i d tail (omega arith) in
    record { line = next.line ∙ ap (λ (t : List (List ℕ)). slice_range bytes (get_or ss i d).from (get_or ss i d).to ∷ t) (rw (add-one, add-one) refl); fault = next.fault }

pub fault_there : (r : Reader) (line : List ℕ) (fault : Option LineKind) → fault ≡ line_fault line →
    lowest_fault (place_of r) line ≡ option_or (option_map kind_of fault) (words_fault (place_of r) (words_of line))
unfolding lowest_fault
fault_there r line fault e = ap (λ (f : Option LineKind). option_or (option_map kind_of f) (words_fault (place_of r) (words_of line))) (sym e)

pub step_taken : (bytes : List ℕ) (spans : List LineSpan) (lines : List (List ℕ)) (i : ℕ) (d : LineSpan) (r s : Reader) (whole : Result Reader (ℕ × FaultKind)) →
    map (line_at bytes) spans ≡ map with_fault lines → i < length spans →
    LineTaken r s (slice_range bytes (get_or spans i d).from (get_or spans i d).to) (get_or spans i d).fault →
    read_from i r (drop i lines) ≡ whole → read_from (i + 1) s (drop (i + 1) lines) ≡ whole
step_taken bytes spans lines i d r s whole e h taken_line told =
    let next = next_at bytes spans lines i d e h in
    let line = slice_range bytes (get_or spans i d).from (get_or spans i d).to in
    let clean : lowest_fault (place_of r) line ≡ None = fault_there r line (get_or spans i d).fault next.fault ∙ taken_line.clean in
    ap (λ (t : Reader). read_from (i + 1) t (drop (i + 1) lines)) taken_line.next
    ∙ sym (taken i r line (drop (i + 1) lines) clean)
    ∙ ap (read_from i r) (sym next.line) ∙ told

fault_told : (read : Result Reader (ℕ × FaultKind)) (n : ℕ) (fault : Option FaultKind) (e : TextErr) →
    ((kind : FaultKind) → fault ≡ Some kind → read ≡ Err (n, kind)) → Tells (option_map (λ kind. (n, kind)) fault) e → Tells (fault_of read) e
fault_told read n None (E.Fault line kind) refuse h = cc
fault_told read n (Some found) (E.Fault line kind) refuse h = ap fault_of (refuse found refl) ∙ h
fault_told read n fault E.NoMemory refuse h = tt

pub step_refused : (bytes : List ℕ) (spans : List LineSpan) (lines : List (List ℕ)) (i number : ℕ) (d : LineSpan) (r : Reader) (whole : Result Reader (ℕ × FaultKind)) (e : TextErr) →
    map (line_at bytes) spans ≡ map with_fault lines → i < length spans → number ≡ i + 1 →
    Tells (option_map (λ kind. (number, kind)) (option_or (option_map kind_of (get_or spans i d).fault) (words_fault (place_of r) (words_of (slice_range bytes (get_or spans i d).from (get_or spans i d).to))))) e →
    read_from i r (drop i lines) ≡ whole → Tells (fault_of whole) e
step_refused bytes spans lines i number d r whole e same h at fault told =
    let next = next_at bytes spans lines i d same h in
    let line = slice_range bytes (get_or spans i d).from (get_or spans i d).to in
    fault_told whole (i + 1) (option_or (option_map kind_of (get_or spans i d).fault) (words_fault (place_of r) (words_of line))) e
    (λ kind found.
    sym told ∙ ap (read_from i r) next.line
    ∙ refused i r line (drop (i + 1) lines) kind (fault_there r line (get_or spans i d).fault next.fault ∙ found))
    (subst (λ (k : ℕ). Tells (option_map (λ kind. (k, kind)) (option_or (option_map kind_of (get_or spans i d).fault) (words_fault (place_of r) (words_of line)))) e) at fault)

-- all lines are read
pub all_read : (bytes : List ℕ) (spans : List LineSpan) (lines : List (List ℕ)) (i number : ℕ) (r : Reader) (whole : Result Reader (ℕ × FaultKind)) →
    map (line_at bytes) spans ≡ map with_fault lines → length spans ≤ i → number ≡ i → read_from i r (drop i lines) ≡ whole → read_end number r r.stage ≡ whole
unfolding read_from
all_read bytes spans lines i number r whole e h at told =
    let same : length spans ≡ length lines = sym (length-map spans (line_at bytes)) ∙ ap length e ∙ length-map lines with_fault in
    let none : drop i lines ≡ [] = drop_of_length-le lines (omega arith) in
    ap (λ (k : ℕ). read_end k r r.stage) at ∙ ap (read_from i r) (sym none) ∙ told

closed_program : (r s : Reader) → s ≡ close_kind r → program_of r ≡ record { kinds = s.kinds; names = s.names }
unfolding close_kind
closed_program r s e = cc (kept_at r.stage r)

pub parsed : (bytes : List ℕ) (r s : Reader) → read_from 0 start (lines_of bytes) ≡ Ok r → s ≡ close_kind r → read_text bytes ≡ Ok (record { kinds = s.kinds; names = s.names })
unfolding read_text
parsed bytes r s told e = ap finish told ∙ ap (λ (p : Program). Ok p) (closed_program r s e)

end_at : (n : ℕ) (r s : Reader) (stage : Stage) → read_end n r stage ≡ Ok s → (stage ≢ InBehaviour) × (r ≡ s)
end_at n r s InBehaviour h = cc
end_at n r s Start h = (λ k. cc, cc)
end_at n r s InKind h = (λ k. cc, cc)

-- the last line is read
pub end_read : (n : ℕ) (r s : Reader) → read_from n r [] ≡ Ok s → (r.stage ≢ InBehaviour) × (r ≡ s)
unfolding read_from
end_read n r s h = end_at n r s r.stage h

-- a line is read without a fault
pub record LineRead (n : ℕ) (r s : Reader) (line : List ℕ) (lines : List (List ℕ)) : Type 0 where
  pub clean : line_fault line ≡ None
  pub words : words_fault (place_of r) (words_of line) ≡ None
  pub rest : read_from (n + 1) (with_words r (words_of line)) lines ≡ Ok s

without_fault : (n : ℕ) (fault : Option FaultKind) (rest : Result Reader (ℕ × FaultKind)) (s : Reader) → unless_fault n fault rest ≡ Ok s → (fault ≡ None) × (rest ≡ Ok s)
without_fault n None rest s h = (refl, h)
without_fault n (Some kind) rest s h = cc

clean_line : (fault : Option LineKind) → option_map kind_of fault ≡ None → fault ≡ None
clean_line None h = refl
clean_line (Some kind) h = cc

pub line_read : (n : ℕ) (r s : Reader) (line : List ℕ) (lines : List (List ℕ)) → read_from n r (line ∷ lines) ≡ Ok s → LineRead n r s line lines
unfolding read_from lowest_fault
line_read n r s line lines h =
    let own = option_map kind_of (line_fault line) in
    let words = words_fault (place_of r) (words_of line) in
    let parts = without_fault (n + 1) (option_or own words) (read_from (n + 1) (with_words r (words_of line)) lines) s h in
    let faults = option_or_none own words parts.0 in
    record { clean = clean_line (line_fault line) faults.0; words = faults.1; rest = parts.1 }
