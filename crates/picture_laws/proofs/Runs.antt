-- Of a run nothing is hidden: its numbers have 64 bits, and each entry tells what is after it.
use Rattle.std.proofs.Common.{◌≡◌, ◌<◌, ◌≤◌, ◌+◌, ℕ, suc, Bool, true, not, if◌then◌else◌, List, [], ◌∷◌, ◌++◌, map, length, refl, ap, sym, ◌∙◌, subst, arith, length-append}
use Rattle.std.specs.List.{AllByRecursion}
use Rattle.behaviour_code.specs.WellFormed.{IsWellFormed}
use Rattle.behaviour_code.specs.declared.code.Program.{Program}
use Rattle.event_rule.specs.Runs.{Goes, Leads}
use Rattle.event_rule.specs.declared.event.Event.{Event}
use Rattle.letter_kinds.specs.Detector.{Token}
use Rattle.letter_kinds.specs.declared.note.Note.{Note}
use Rattle.letter_kinds.specs.declared.note.Note.TheVariants.{Block, Unblock, Ack}
use Rattle.letter_kinds.specs.declared.note.Report.{Report}
use Rattle.machine_rules.specs.Next.{next}
use Rattle.machine_rules.specs.Options.{Options}
use Rattle.machine_rules.specs.Run.{IsRun}
use Rattle.machine_rules.specs.State.{State, first_state}
use Rattle.count_laws.proofs.bounds.Bounding.{runs_make_few, runs_open}
use Rattle.cell_laws.proofs.Keeping.{runs_keep_program}
use Rattle.picture_rules.specs.Blocked.{note_line}
use Rattle.picture_rules.specs.Parts.{above, changes, state_lines}
use Rattle.picture_rules.specs.Pictures.{Tell, entry_line, entry_lines, posted, print_line, printed}
use Rattle.picture_rules.specs.Words.{Line}
use Rattle.picture_laws.specs.Applying.{Part, apply, begins, further, is_note, part_lines, says_gone}
use Rattle.picture_laws.specs.Runs.{EveryRunFits, HidesNothing, TellsAllStates, apply_all, entries_in, is_entry, nothing_told, up_to_entry}
use Rattle.picture_laws.proofs.Bytes.{Pass, all_append, all_map, all_weaker}
use Rattle.picture_laws.proofs.Numbered.{leads_numbered}
use Rattle.picture_laws.proofs.Shown.{first_passes, off, others_pass, second_true}
use Rattle.picture_laws.proofs.States.{state_told}
use Rattle.picture_laws.proofs.Telling.{changes_other, parts_told}

-- ---- numbers

above_some : (made : ℕ) (ks : List Report) → AllByRecursion (λ r. r.actor < made) ks → above (map (λ r. r.actor) ks) ≤ made
above_some made [] h = omega arith
above_some made (r ∷ ks) h = omega (arith, h.0, above_some made ks h.1)

above_opened : (opened : ℕ) (ts : List Token) → AllByRecursion (λ t. t.number ≤ opened) ts → above (map (λ t. t.number) ts) ≤ suc opened
above_opened opened [] h = omega arith
above_opened opened (t ∷ ts) h = omega (arith, h.0, above_opened opened ts h.1)

pub every_run_fits : EveryRunFits
every_run_fits program options book s run short =
    let few : length s.actors ≤ 65536 = runs_make_few program options book s run in
    let long : length book ≤ 100000000 = short in
    let start = first_state program options in
    let numbered = leads_numbered book start s run (omega arith) (record { detector = record { kept = tt; tokens = tt }; notes = tt }) in
    record {
      actors = omega (arith, few);
      reports = omega (arith, above_some 65536 s.detector.kept numbered.detector.kept);
      tokens = omega (
        arith,
        long,
        runs_open program options book s run,
        above_opened s.detector.opened s.detector.tokens numbered.detector.tokens,
      );
    }

-- ---- an entry

leads_more : (book : List Event) (r s t : State) (e : Event) → Leads next r book s → next s e ≡ Goes t → Leads next r (book ++ e ∷ []) t
leads_more [] r s t e same goes = (t, ap (λ u. next u e) same ∙ goes, refl)
leads_more (f ∷ book) r s t e leads goes = (leads.0, leads.1, leads_more book leads.0 s t e leads.2 goes)

room_more : (book : List Event) (e : Event) → length book < 100000000 → length (book ++ e ∷ []) ≤ 100000000
room_more book e room = omega (arith, room, length-append book (e ∷ []))

pub hides_nothing : HidesNothing
hides_nothing program options book e s t well run room goes p =
    let fits = every_run_fits program options book s run (omega (arith, room)) in
    let fit = every_run_fits program options (book ++ e ∷ []) t (leads_more book (first_state program options) s t e run goes) (room_more book e room) in
    parts_told e s t (subst IsWellFormed (sym (runs_keep_program program options book s run).same_program) well) fits fit goes p

-- ---- a whole picture

abbrev no_entry : Line → Bool
no_entry line = not (is_entry line)

note_no_entry : (n : Note) → no_entry (note_line n) ≡ true
note_no_entry (Block a count held) = refl
note_no_entry (Unblock a) = refl
note_no_entry (Ack token a) = refl

body_passes : (e : Event) (s t : State) → Pass no_entry (map print_line (printed s t) ++ map note_line (posted e s t) ++ changes s t)
body_passes e s t =
    all_append (all_append (all_map print_line (printed s t) (λ v. refl)) (all_map note_line (posted e s t) note_no_entry))
    (all_weaker (λ l. second_true (not (is_note l)) (no_entry l)) (changes_other s t))

up_to_is : (body later : List Line) → Pass no_entry body → up_to_entry later ≡ [] → up_to_entry (body ++ later) ≡ body
up_to_is [] later h none = none
up_to_is (l ∷ body) later h none =
    ap (λ (b : Bool). if b then [] else l ∷ up_to_entry (body ++ later)) (off (is_entry l) (first_passes h))
    ∙ ap (λ ls. l ∷ ls) (up_to_is body later (others_pass h) none)

in_later : (body later : List Line) → Pass no_entry body → entries_in (body ++ later) ≡ entries_in later
in_later [] later h = refl
in_later (l ∷ body) later h =
    ap (λ (b : Bool). if b then (l ∷ up_to_entry (body ++ later)) ∷ entries_in (body ++ later) else entries_in (body ++ later)) (off (is_entry l) (first_passes h))
    ∙ in_later body later (others_pass h)

-- what is told of further entries begins with one, if there is any
starts_anew : (s t : State) (book : List Event) (lines : List Line) → Tell s book t lines → up_to_entry lines ≡ []
starts_anew s t [] lines told = ap up_to_entry told.1
starts_anew s t (e ∷ book) lines told = ap up_to_entry told.3

first_entry : (e : Event) (s t : State) (later : List Line) → up_to_entry later ≡ []
    → entries_in (entry_lines e s t ++ later) ≡ entry_lines e s t ∷ entries_in later
first_entry e s t later none =
    let passes = body_passes e s t in
    let body = map print_line (printed s t) ++ map note_line (posted e s t) ++ changes s t in
    ap (λ ls. (entry_line e ∷ ls) ∷ entries_in (body ++ later)) (up_to_is body later passes none)
    ∙ ap (λ ls. (entry_line e ∷ body) ∷ ls) (in_later body later passes)

-- a part is told by what it was before, and by no other
apply_same : (lines : List Line) (one other : Part → List Line) (p : Part) → one p ≡ other p → apply lines one p ≡ apply lines other p
apply_same [] one other p same = same
apply_same (l ∷ lines) one other p same =
    ap (λ ls. if begins p l then l ∷ further lines else (if says_gone p l then [] else ls)) (apply_same lines one other p same)

module _ (program : Program) (options : Options) (well : IsWellFormed program) where
  all_along : (book more : List Event) (s t : State) (lines : List Line) (old : Part → List Line) (p : Part) → IsRun program options book s
      → length book + length more ≤ 100000000 → Tell s more t lines → old p ≡ part_lines s p → apply_all (entries_in lines) old p ≡ part_lines t p
  all_along book [] s t lines old p run short told is =
      ap (λ ls. apply_all (entries_in ls) old p) told.1 ∙ is ∙ ap (λ u. part_lines u p) told.0
  all_along book (e ∷ more) s t lines old p run short told is =
      let u = told.0 in
      let here = apply_same (entry_lines e s u) old (part_lines s) p is
      ∙ hides_nothing program options book e s u well run (omega (arith, short)) told.2 p in
      ap (λ ls. apply_all (entries_in ls) old p) told.3
      ∙ ap (λ ls. apply_all ls old p) (first_entry e s u told.1 (starts_anew u t more told.1 told.4))
      ∙ all_along (book ++ e ∷ []) more u t told.1 (apply (entry_lines e s u) old) p
      (leads_more book (first_state program options) s u e run told.2) (omega (arith, short, length-append book (e ∷ []))) told.4 here

pub tells_all_states : TellsAllStates
tells_all_states program options book t lines well short told p =
    let start = first_state program options in
    let long : length book ≤ 100000000 = short in
    all_along program options well [] book start t lines (apply (state_lines start) nothing_told) p refl (omega (arith, long)) told
    (state_told start (every_run_fits program options [] start refl (omega arith)) p)
