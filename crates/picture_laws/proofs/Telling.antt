-- The lines of an entry tell each part, and the notes that wait.
use Rattle.std.proofs.Common.{◌≡◌, ◌≤◌, ◌⊎◌, ℕ, max, Bool, true, not, cond, List, [], ◌∷◌, ◌++◌, map, drop, filter, length, inl, inr, refl, ap, sym, ◌∙◌, subst, arith}
use Rattle.std.specs.Prelude.{codes, flat_map}
use Rattle.std.specs.Fmt.{decimal}
use Rattle.std.proofs.lemmas.List.{append-nil, drop-map, map-append}
use Rattle.std.proofs.lemmas.List.Elements.{filter-append}
use Rattle.behaviour_code.specs.declared.code.Program.{Program}
use Rattle.event_rule.specs.declared.event.Event.{Event}
use Rattle.letter_kinds.specs.Detector.{token_numbered}
use Rattle.letter_kinds.specs.Reports.{kept_report}
use Rattle.letter_kinds.specs.declared.note.Note.{Note}
use Rattle.letter_kinds.specs.declared.note.Note.TheVariants.{Block, Unblock, Ack}
use Rattle.machine_rules.proofs.Stepping.{step_of}
use Rattle.machine_rules.specs.Actors.{seat_at}
use Rattle.machine_rules.specs.State.{State}
use Rattle.picture_rules.specs.Blocked.{note_line, report_lines, token_lines}
use Rattle.picture_rules.specs.Parts.{above, changes, detector_change, numbers_below, report_change, reporters, seat_change, token_change, token_numbers}
use Rattle.picture_rules.specs.Pictures.{entry_line, entry_lines, heard, posted, print_line, printed}
use Rattle.picture_rules.specs.Seats.{seat_lines}
use Rattle.picture_rules.specs.Words.{Line}
use Rattle.picture_laws.specs.Applying.{AReport, AToken, AnActor, NumbersFit, Part, TellsNotes, TellsParts, TheDetector, apply, is_further, is_note, part_lines}
use Rattle.picture_laws.specs.Runs.{is_entry}
use Rattle.picture_laws.proofs.Blocks.{detector_other, detector_tells, is_other, part_other, part_tells, report_begun, same_bytes, seat_begun, token_begun}
use Rattle.picture_laws.proofs.Bytes.{Pass, all_append, all_cons, all_flat, all_map, all_weaker}
use Rattle.picture_laws.proofs.Cover.{above_behind, above_both, above_front, kept_named, open_named}
use Rattle.picture_laws.proofs.Kept.{notes_kept, program_kept}
use Rattle.picture_laws.proofs.Lines.{TextsAre, report_are, seat_are, token_are}
use Rattle.picture_laws.proofs.Names.{names_are}
use Rattle.picture_laws.proofs.Parts.{IsPast, PastAll, all_parts, among, blocks_flat, none_past, parts_fit}
use Rattle.picture_laws.proofs.Shown.{first_passes, first_true, off, others_pass}
use Rattle.picture_laws.proofs.Walking.{AllFit, In, Tells, all_told, skipped}

max_most : (x y n : ℕ) → x ≤ n → y ≤ n → max x y ≤ n
max_most x y n h k = omega (arith, h, k)

left_of_max : (x y a : ℕ) → max x y ≤ a → x ≤ a
left_of_max x y a h = omega (arith, h)

right_of_max : (x y a : ℕ) → max x y ≤ a → y ≤ a
right_of_max x y a h = omega (arith, h)

at_most : (x y a : ℕ) → x ≤ y → y ≤ a → x ≤ a
at_most x y a h k = omega (arith, h, k)

module _ (s t : State) where
  -- what changes of a part
  abbrev block : Part → List Line
  block (AnActor a) = seat_change t.program.names a (seat_at s.actors a) (seat_at t.actors a)
  block TheDetector = detector_change s.detector t.detector
  block (AReport a) = report_change a (kept_report s.detector.kept a) (kept_report t.detector.kept a)
  block (AToken n) = token_change n (token_numbered n s.detector) (token_numbered n t.detector)

  abbrev actors_end : ℕ
  actors_end = max (length s.actors) (length t.actors)

  abbrev reports_end : ℕ
  reports_end = above (reporters s.detector ++ reporters t.detector)

  abbrev tokens_end : ℕ
  tokens_end = above (token_numbers s.detector ++ token_numbers t.detector)

  abbrev parts_of : List Part
  parts_of = all_parts actors_end reports_end tokens_end

  -- the changes are those of the parts, in their order
  blocks_are : flat_map block parts_of ≡ changes s t
  blocks_are = blocks_flat actors_end reports_end tokens_end block

  -- the state before, of the program that the one after has
  abbrev before : State
  before = record s { program = t.program }

  tells : TextsAre t.program.names → (q : Part) → Tells q (block q) (part_lines before q) (part_lines t q)
  tells ok (AnActor a) =
      part_tells (AnActor a) (seat_lines t.program.names a (seat_at s.actors a)) (seat_are t.program.names ok a (seat_at s.actors a))
      (codes "gone" ∷ decimal a ∷ []) (seat_lines t.program.names a (seat_at t.actors a)) (seat_are t.program.names ok a (seat_at t.actors a))
      (seat_begun t.program.names a (seat_at t.actors a)) refl (same_bytes (decimal a))
  tells ok TheDetector = detector_tells s.detector t.detector
  tells ok (AReport a) =
      part_tells (AReport a) (report_lines (kept_report s.detector.kept a)) (report_are (kept_report s.detector.kept a))
      (codes "withdrawn" ∷ decimal a ∷ []) (report_lines (kept_report t.detector.kept a)) (report_are (kept_report t.detector.kept a))
      (report_begun a (kept_report t.detector.kept a) (kept_named t.detector.kept a)) refl (same_bytes (decimal a))
  tells ok (AToken n) =
      part_tells (AToken n) (token_lines (token_numbered n s.detector)) (token_are (token_numbered n s.detector))
      (codes "closed" ∷ decimal n ∷ []) (token_lines (token_numbered n t.detector)) (token_are (token_numbered n t.detector))
      (token_begun n (token_numbered n t.detector) (open_named t.detector.tokens n)) refl (same_bytes (decimal n))

  -- ---- none is left out

  past_first : (p : Part) → IsPast actors_end reports_end tokens_end p → PastAll s p
  past_first (AnActor a) past = left_of_max (length s.actors) (length t.actors) a past
  past_first TheDetector past = past
  past_first (AReport a) past = at_most _ _ a (above_front (reporters s.detector) (reporters t.detector)) past
  past_first (AToken n) past = at_most _ _ n (above_front (token_numbers s.detector) (token_numbers t.detector)) past

  past_second : (p : Part) → IsPast actors_end reports_end tokens_end p → PastAll t p
  past_second (AnActor a) past = right_of_max (length s.actors) (length t.actors) a past
  past_second TheDetector past = past
  past_second (AReport a) past = at_most _ _ a (above_behind (reporters s.detector) (reporters t.detector)) past
  past_second (AToken n) past = at_most _ _ n (above_behind (token_numbers s.detector) (token_numbers t.detector)) past

  covers : (p : Part) → (In p parts_of) ⊎ (part_lines before p ≡ part_lines t p)
  covers p = elim (among actors_end reports_end tokens_end p) [
    | inl found ↦ inl found
    | inr past ↦ inr (none_past before p (past_first p past) ∙ sym (none_past t p (past_second p past)))
  ]

  all_fit : NumbersFit s → NumbersFit t → AllFit parts_of
  all_fit f g =
      parts_fit actors_end reports_end tokens_end
      (max_most (length s.actors) (length t.actors) _ f.actors g.actors)
      (above_both (reporters s.detector) (reporters t.detector) _ f.reports g.reports)
      (above_both (token_numbers s.detector) (token_numbers t.detector) _ f.tokens g.tokens)

  -- ---- an entry

  note_further : (n : Note) → is_further (note_line n) ≡ true
  note_further (Block a count held) = refl
  note_further (Unblock a) = refl
  note_further (Ack token a) = refl

  entry_told : (e : Event) → TextsAre t.program.names → NumbersFit s → NumbersFit t → (p : Part)
      → apply (entry_lines e s t) (part_lines before) p ≡ part_lines t p
  entry_told e ok f g p =
      skipped (part_lines before) p (entry_line e ∷ (map print_line (printed s t) ++ map note_line (posted e s t))) (changes s t)
      (all_cons refl (all_append (all_map print_line (printed s t) (λ v. refl)) (all_map note_line (posted e s t) note_further)))
      ∙ ap (λ ls. apply ls (part_lines before) p) (sym blocks_are)
      ∙ all_told (part_lines before) (part_lines t) block (tells ok) p parts_of (all_fit f g) (covers p)

pub parts_told : TellsParts
parts_told e s t well f g goes p =
    let kept = program_kept (step_of s t e goes) in
    let ok = subst (λ (q : Program). TextsAre q.names) (sym kept) (names_are s.program well) in
    subst (λ (q : Program). apply (entry_lines e s t) (part_lines (record s { program = q })) p ≡ part_lines t p) kept (entry_told s t e ok f g p)

-- ---- notes

filter_none : (p : Line → Bool) (xs : List Line) → Pass (λ x. not (p x)) xs → filter p xs ≡ []
filter_none p [] h = refl
filter_none p (x ∷ xs) h = ap (λ b. cond b (x ∷ filter p xs) (filter p xs)) (off (p x) (first_passes h)) ∙ filter_none p xs (others_pass h)

filter_all : (p : Line → Bool) (xs : List Line) → Pass p xs → filter p xs ≡ xs
filter_all p [] h = refl
filter_all p (x ∷ xs) h = ap (λ b. cond b (x ∷ filter p xs) (filter p xs)) (first_passes h) ∙ ap (λ ls. x ∷ ls) (filter_all p xs (others_pass h))

pub changes_other : (s t : State) → Pass is_other (changes s t)
changes_other s t =
    all_append (all_append (all_append
    (all_flat (λ a. seat_change t.program.names a (seat_at s.actors a) (seat_at t.actors a)) (numbers_below (actors_end s t))
    (λ a. part_other (AnActor a) (codes "gone" ∷ decimal a ∷ []) (seat_lines t.program.names a (seat_at s.actors a)) (seat_lines t.program.names a (seat_at t.actors a))
    (seat_begun t.program.names a (seat_at t.actors a)) refl))
    (detector_other s.detector t.detector))
    (all_flat (λ a. report_change a (kept_report s.detector.kept a) (kept_report t.detector.kept a)) (numbers_below (reports_end s t))
    (λ a. part_other (AReport a) (codes "withdrawn" ∷ decimal a ∷ []) (report_lines (kept_report s.detector.kept a)) (report_lines (kept_report t.detector.kept a))
    (report_begun a (kept_report t.detector.kept a) (kept_named t.detector.kept a)) refl)))
    (all_flat (λ n. token_change n (token_numbered n s.detector) (token_numbered n t.detector)) (numbers_below (tokens_end s t))
    (λ n. part_other (AToken n) (codes "closed" ∷ decimal n ∷ []) (token_lines (token_numbered n s.detector)) (token_lines (token_numbered n t.detector))
    (token_begun n (token_numbered n t.detector) (open_named t.detector.tokens n)) refl))

note_noted : (n : Note) → is_note (note_line n) ≡ true
note_noted (Block a count held) = refl
note_noted (Unblock a) = refl
note_noted (Ack token a) = refl

-- of the lines of an entry those of notes are those that it posts
noted : (e : Event) (s t : State) → filter is_note (entry_lines e s t) ≡ map note_line (posted e s t)
noted e s t =
    filter-append is_note (map print_line (printed s t) ++ map note_line (posted e s t)) (changes s t)
    ∙ ap (λ ls. filter is_note (map print_line (printed s t) ++ map note_line (posted e s t)) ++ ls) (filter_none is_note (changes s t) (all_weaker (λ l. first_true (not (is_note l)) (not (is_entry l))) (changes_other s t)))
    ∙ append-nil (filter is_note (map print_line (printed s t) ++ map note_line (posted e s t)))
    ∙ filter-append is_note (map print_line (printed s t)) (map note_line (posted e s t))
    ∙ ap (λ ls. ls ++ filter is_note (map note_line (posted e s t))) (filter_none is_note (map print_line (printed s t)) (all_map print_line (printed s t) (λ v. refl)))
    ∙ filter_all is_note (map note_line (posted e s t)) (all_map note_line (posted e s t) note_noted)

pub notes_told : TellsNotes
notes_told e s t goes =
    ap (map note_line) (notes_kept (step_of s t e goes)) ∙ map-append note_line (drop (heard e) s.notes) (posted e s t)
    ∙ ap (λ ls. ls ++ map note_line (posted e s t)) (sym (drop-map note_line (heard e) s.notes))
    ∙ ap (λ ls. drop (heard e) (map note_line s.notes) ++ ls) (sym (noted e s t))
