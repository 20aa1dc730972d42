-- The lines of a part: its first, and further ones.
use Rattle.std.proofs.Common.{◌≡◌, ℕ, Bool, true, false, ◌&&◌, not, if◌then◌else◌, List, [], ◌∷◌, ◌++◌, map, Option, Some, None, refl, ap, ◌∙◌}
use Rattle.std.specs.Prelude.{bytes_eq, flat_map}
use Rattle.std.specs.Fmt.{decimal}
use Rattle.std.specs.FinMap as m
use Rattle.std.proofs.lemmas.Slice.Eq.{bytes_eq-Decides}
use Rattle.orca_names.specs.declared.names.Value.{Value}
use Rattle.turn_rules.specs.declared.act.Frame.{Frame}
use Rattle.letter_kinds.specs.Counting.{Loaded}
use Rattle.letter_kinds.specs.Detector.{Detector, Token}
use Rattle.letter_kinds.specs.Letters.{Letter, App, Inc, Dec, Confirm}
use Rattle.letter_kinds.specs.declared.note.Report.{Report}
use Rattle.machine_rules.specs.Actors.{Seat}
use Rattle.machine_rules.specs.Cell.{Cell}
use Rattle.picture_rules.specs.Blocked.{detector_lines, member_line, report_lines, token_lines}
use Rattle.picture_rules.specs.Parts.{detector_change, or_gone, part_change, where_changed}
use Rattle.picture_rules.specs.Seats.{brings_line, fields_lines, holds_line, knows_line, letter_lines, loads_lines, object_line, seat_lines, turn_lines}
use Rattle.picture_rules.specs.Words.{Line, Word, text_of_lines}
use Rattle.picture_laws.specs.Applying.{AReport, AToken, AnActor, Part, TheDetector, begins, is_further, is_note, says_gone}
use Rattle.picture_laws.specs.Runs.{is_entry}
use Rattle.picture_laws.proofs.Apart.{texts_apart}
use Rattle.picture_laws.proofs.Bytes.{Pass, all_append, all_cons, all_flat, all_map, all_weaker, said}
use Rattle.picture_laws.proofs.Lines.{AreLines, detector_are}
use Rattle.picture_laws.proofs.Shown.{first_true, second_true}
use Rattle.picture_laws.proofs.Walking.{Tells, anew, gone, same}

-- neither a note's nor the first of an entry
abbrev pub is_other : Line → Bool
is_other line = not (is_note line) && not (is_entry line)

-- and not the first of a part
abbrev pub is_inner : Line → Bool
is_inner line = is_further line && is_other line

-- nothing, or the part's first line and further ones
pub data Begun (q : Part) : List Line → Type 0 where
  none : Begun q []
  some : (line : Line) (body : List Line) → begins q line ≡ true → is_other line ≡ true → Pass is_inner body → Begun q (line ∷ body)

-- ---- further lines

loads_in : (load : List Loaded) → Pass is_inner (loads_lines load)
loads_in [] = said refl
loads_in (e ∷ load) = said refl

letter_in : (texts : List (List ℕ)) (l : Letter) → Pass is_inner (letter_lines texts l)
letter_in texts (App behaviour args load rows) = all_cons refl (all_append (loads_in load) (all_map brings_line rows (λ e. refl)))
letter_in texts (Inc things) = said refl
letter_in texts (Dec things) = said refl
letter_in texts (Confirm token) = said refl

turn_in : (frame : Option Frame) → Pass is_inner (turn_lines frame)
turn_in None = said refl
turn_in (Some f) = said refl

fields_in : (vs : List Value) → Pass is_inner (fields_lines vs)
fields_in [] = said refl
fields_in (v ∷ vs) = said refl

cell_in : (c : Cell) → Pass is_inner (turn_lines c.frame ++ fields_lines c.fields.values ++ map object_line (m.entries c.holdings.rows)
    ++ map holds_line (m.entries c.holdings.foreign) ++ map knows_line (m.entries c.known))
cell_in c =
    all_append (all_append (all_append (all_append (turn_in c.frame) (fields_in c.fields.values))
    (all_map object_line (m.entries c.holdings.rows) (λ e. refl)))
    (all_map holds_line (m.entries c.holdings.foreign) (λ e. refl)))
    (all_map knows_line (m.entries c.known) (λ e. refl))

pub seat_inner : (texts : List (List ℕ)) (c : Cell) (mail : List Letter) → Pass is_inner (turn_lines c.frame ++ fields_lines c.fields.values
    ++ map object_line (m.entries c.holdings.rows) ++ map holds_line (m.entries c.holdings.foreign) ++ map knows_line (m.entries c.known)
    ++ flat_map (letter_lines texts) mail)
seat_inner texts c mail = all_append (cell_in c) (all_flat (letter_lines texts) mail (letter_in texts))

pub same_bytes : (w : Word) → bytes_eq w w ≡ true
same_bytes w = (bytes_eq-Decides w w).1 refl

pub seat_begun : (texts : List (List ℕ)) (a : ℕ) (o : Option Seat) → Begun (AnActor a) (seat_lines texts a o)
seat_begun texts a None = none
seat_begun texts a (Some o) = some _ _ (same_bytes (decimal a)) refl (seat_inner texts o.cell o.mail)

pub detector_begun : (d : Detector) → Begun TheDetector (detector_lines d)
detector_begun d = some _ _ refl refl (said refl)

pub report_begun : (a : ℕ) (r : Option Report) → ((x : Report) → r ≡ Some x → x.actor ≡ a) → Begun (AReport a) (report_lines r)
report_begun a None named = none
report_begun a (Some r) named = some _ _ (ap (λ n. bytes_eq (decimal n) (decimal a)) (named r refl) ∙ same_bytes (decimal a)) refl (said refl)

pub token_begun : (n : ℕ) (t : Option Token) → ((x : Token) → t ≡ Some x → x.number ≡ n) → Begun (AToken n) (token_lines t)
token_begun n None named = none
token_begun n (Some t) named =
    some _ _ (ap (λ k. bytes_eq (decimal k) (decimal n)) (named t refl) ∙ same_bytes (decimal n)) refl (all_map (member_line t.acked) t.members (λ a. refl))

-- ---- what changes of a part tells it

pub inner_further : (line : Line) → is_inner line ≡ true → is_further line ≡ true
inner_further line h = first_true (is_further line) (is_other line) h

inner_other : (line : Line) → is_inner line ≡ true → is_other line ≡ true
inner_other line h = second_true (is_further line) (is_other line) h

module _ (q : Part) (before : List Line) (h : AreLines before) where
  changed : (after lines : List Line) (b : Bool) → bytes_eq (text_of_lines before) (text_of_lines after) ≡ b → where_changed before after lines ≡ (if b then [] else lines)
  changed after lines b e = ap (λ (c : Bool). if c then [] else lines) e

  alike : (after : List Line) → AreLines after → bytes_eq (text_of_lines before) (text_of_lines after) ≡ true → before ≡ after
  alike after k e = texts_apart before after h k ((bytes_eq-Decides (text_of_lines before) (text_of_lines after)).0 e)

  tells_by : (gone_line : Line) (after : List Line) (b : Bool) → bytes_eq (text_of_lines before) (text_of_lines after) ≡ b → AreLines after → Begun q after
      → begins q gone_line ≡ false → says_gone q gone_line ≡ true → Tells q (part_change gone_line before after) before after
  tells_by g after true e k begun f t = same (changed after (or_gone g after) true e) (alike after k e)
  tells_by g _ false e k none f t = gone g (changed [] (g ∷ []) false e) f t refl
  tells_by g _ false e k (some line body s o inner) f t =
      anew line body (changed (line ∷ body) (line ∷ body) false e) s (all_weaker inner_further inner) refl

  pub part_tells : (gone_line : Line) (after : List Line) → AreLines after → Begun q after
      → begins q gone_line ≡ false → says_gone q gone_line ≡ true → Tells q (part_change gone_line before after) before after
  part_tells g after k begun f t = tells_by g after (bytes_eq (text_of_lines before) (text_of_lines after)) refl k begun f t

detector_tells_by : (d e : Detector) (b : Bool) → bytes_eq (text_of_lines (detector_lines d)) (text_of_lines (detector_lines e)) ≡ b
    → Tells TheDetector (detector_change d e) (detector_lines d) (detector_lines e)
detector_tells_by d e true h =
    same (changed TheDetector (detector_lines d) (detector_are d) (detector_lines e) (detector_lines e) true h)
    (alike TheDetector (detector_lines d) (detector_are d) (detector_lines e) (detector_are e) h)
detector_tells_by d e false h =
    anew _ [] (changed TheDetector (detector_lines d) (detector_are d) (detector_lines e) (detector_lines e) false h) refl (said refl) refl

pub detector_tells : (d e : Detector) → Tells TheDetector (detector_change d e) (detector_lines d) (detector_lines e)
detector_tells d e = detector_tells_by d e (bytes_eq (text_of_lines (detector_lines d)) (text_of_lines (detector_lines e))) refl

-- ---- none of its lines is a note's or begins an entry

unless_other : (b : Bool) (lines : List Line) → Pass is_other lines → Pass is_other (if b then [] else lines)
unless_other true lines h = said refl
unless_other false lines h = h

or_gone_other : (q : Part) (g : Line) (after : List Line) → Begun q after → is_other g ≡ true → Pass is_other (or_gone g after)
or_gone_other q g _ none o = all_cons o (said refl)
or_gone_other q g _ (some line body s i inner) o = all_cons i (all_weaker inner_other inner)

pub part_other : (q : Part) (g : Line) (before after : List Line) → Begun q after → is_other g ≡ true → Pass is_other (part_change g before after)
part_other q g before after begun o =
    unless_other (bytes_eq (text_of_lines before) (text_of_lines after)) (or_gone g after) (or_gone_other q g after begun o)

pub detector_other : (d e : Detector) → Pass is_other (detector_change d e)
detector_other d e = unless_other (bytes_eq (text_of_lines (detector_lines d)) (text_of_lines (detector_lines e))) (detector_lines e) (said refl)
