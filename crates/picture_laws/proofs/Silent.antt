-- Sums over the lines that begin with one word; other lines add nothing.
use Rattle.std.proofs.Common.{◌≡◌, ◌+◌, ℕ, Bool, true, false, not, if◌then◌else◌, List, [], ◌∷◌, ◌++◌, map, Option, Some, None, refl, ap, arith}
use Rattle.std.specs.Prelude.{bytes_eq, codes, flat_map, sum_by}
use Rattle.std.proofs.lemmas.List.Sums.{sum_by-append, sum_by-cons}
use Rattle.orca_names.specs.declared.names.Thing.{Thing}
use Rattle.orca_names.specs.declared.names.Value.{Value}
use Rattle.behaviour_text.specs.Words.{word_at}
use Rattle.turn_rules.specs.declared.act.Frame.{Frame}
use Rattle.letter_kinds.specs.Counting.{Loaded}
use Rattle.letter_kinds.specs.Detector.{Detector, Token}
use Rattle.letter_kinds.specs.Holdings.{Row}
use Rattle.letter_kinds.specs.Letters.{Letter, App, Inc, Dec, Confirm}
use Rattle.letter_kinds.specs.declared.note.Report.{Report}
use Rattle.picture_rules.specs.Blocked.{detector_lines, member_line, report_lines, token_lines}
use Rattle.picture_rules.specs.Seats.{brings_line, fields_lines, holds_line, knows_line, letter_lines, loads_lines, object_line, turn_lines}
use Rattle.picture_rules.specs.Words.{Line, Word}
use Rattle.picture_laws.proofs.Bytes.{Pass, all_append, all_cons, all_flat, all_map, said}
use Rattle.picture_laws.proofs.Shown.{first_passes, off, others_pass}

module _ (w : Word) where
  -- the line does not begin with the word
  abbrev pub is_silent : Line → Bool
  is_silent line = not (bytes_eq (word_at line 0) w)

  module _ (f : Line → ℕ) where
    -- what the line adds, if it begins with the word
    abbrev pub line_adds : Line → ℕ
    line_adds line = if bytes_eq (word_at line 0) w then f line else 0

    abbrev pub lines_add : List Line → ℕ
    lines_add lines = sum_by line_adds lines

    pub silent : (lines : List Line) → Pass is_silent lines → lines_add lines ≡ 0
    silent [] h = refl
    silent (l ∷ lines) h =
        let nothing = ap (λ (b : Bool). if b then f l else 0) (off (bytes_eq (word_at l 0) w) (first_passes h)) in
        omega (arith, sum_by-cons line_adds l lines, nothing, silent lines (others_pass h))

    pub alone : (l : Line) → bytes_eq (word_at l 0) w ≡ true → lines_add (l ∷ []) ≡ f l
    alone l h = let all = ap (λ (b : Bool). if b then f l else 0) h in omega (arith, sum_by-cons line_adds l [], all)

    pub one_more : (l : Line) (lines : List Line) → bytes_eq (word_at l 0) w ≡ true → lines_add (l ∷ lines) ≡ f l + lines_add lines
    one_more l lines h =
        let all = ap (λ (b : Bool). if b then f l else 0) h in omega (arith, sum_by-cons line_adds l lines, all)

    pub passed_by : (l : Line) (lines : List Line) → bytes_eq (word_at l 0) w ≡ false → lines_add (l ∷ lines) ≡ lines_add lines
    passed_by l lines h =
        let nothing = ap (λ (b : Bool). if b then f l else 0) h in omega (arith, sum_by-cons line_adds l lines, nothing)

    pub both_add : (xs ys : List Line) → lines_add (xs ++ ys) ≡ lines_add xs + lines_add ys
    both_add xs ys = sum_by-append line_adds xs ys

  -- ---- lines with other words

  -- this word is another
  abbrev pub IsOff : Word → Type 0
  IsOff v = bytes_eq v w ≡ false

  pub turn_off : IsOff (codes "turn") → (frame : Option Frame) → Pass is_silent (turn_lines frame)
  turn_off o None = said refl
  turn_off o (Some f) = all_cons (ap not o) (said refl)

  pub fields_off : IsOff (codes "fields") → (vs : List Value) → Pass is_silent (fields_lines vs)
  fields_off o [] = said refl
  fields_off o (v ∷ vs) = all_cons (ap not o) (said refl)

  pub objects_off : IsOff (codes "object") → (es : List (ℕ × (Row × ℕ))) → Pass is_silent (map object_line es)
  objects_off o es = all_map object_line es (λ e. ap not o)

  pub holds_off : IsOff (codes "holds") → (es : List (Thing × (ℕ × Option Row))) → Pass is_silent (map holds_line es)
  holds_off o es = all_map holds_line es (λ e. ap not o)

  pub knows_off : IsOff (codes "knows") → (es : List (Thing × Row)) → Pass is_silent (map knows_line es)
  knows_off o es = all_map knows_line es (λ e. ap not o)

  pub loads_off : IsOff (codes "loads") → (load : List Loaded) → Pass is_silent (loads_lines load)
  loads_off o [] = said refl
  loads_off o (e ∷ load) = all_cons (ap not o) (said refl)

  pub brings_off : IsOff (codes "brings") → (rows : List Loaded) → Pass is_silent (map brings_line rows)
  brings_off o rows = all_map brings_line rows (λ e. ap not o)

  module _ (letter : IsOff (codes "letter")) (loads : IsOff (codes "loads")) (brings : IsOff (codes "brings"))
      (inc : IsOff (codes "inc")) (dec : IsOff (codes "dec")) (confirm : IsOff (codes "confirm")) where
    letter_off : (texts : List (List ℕ)) (l : Letter) → Pass is_silent (letter_lines texts l)
    letter_off texts (App behaviour args load rows) = all_cons (ap not letter) (all_append (loads_off loads load) (brings_off brings rows))
    letter_off texts (Inc things) = all_cons (ap not inc) (said refl)
    letter_off texts (Dec things) = all_cons (ap not dec) (said refl)
    letter_off texts (Confirm token) = all_cons (ap not confirm) (said refl)

    pub letters_off : (texts : List (List ℕ)) (mail : List Letter) → Pass is_silent (flat_map (letter_lines texts) mail)
    letters_off texts mail = all_flat (letter_lines texts) mail (letter_off texts)

  pub detector_off : IsOff (codes "detector") → (d : Detector) → Pass is_silent (detector_lines d)
  detector_off o d = all_cons (ap not o) (said refl)

  pub report_off : IsOff (codes "report") → (r : Option Report) → Pass is_silent (report_lines r)
  report_off o None = said refl
  report_off o (Some r) = all_cons (ap not o) (said refl)

  pub token_off : IsOff (codes "token") → IsOff (codes "member") → (t : Option Token) → Pass is_silent (token_lines t)
  token_off o member None = said refl
  token_off o member (Some t) = all_cons (ap not o) (all_map (member_line t.acked) t.members (λ a. ap not member))
