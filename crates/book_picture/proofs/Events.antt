-- An event is told by what it touches.
use Rattle.std.proofs.Common.{◌≡◌, ◌<◌, ℕ, List, [], ◌∷◌, ◌++◌, length, map, Option, ap, sym, subst, ◌∙◌}
use Rattle.std.specs.Prelude.{string_bytes}
use Rattle.std.proofs.lemmas.List.{length-map}
use Rattle.behaviour_code.specs.declared.code.Program.{Program}
use Rattle.cell_laws.proofs.Keeping.{runs_keep_program}
use Rattle.event_rule.specs.Runs.{Goes}
use Rattle.event_rule.specs.declared.event.Event.{Event}
use Rattle.machine_rules.specs.Next.{next}
use Rattle.machine_rules.specs.Options.{Options}
use Rattle.machine_rules.specs.Run.{IsRun}
use Rattle.machine_rules.specs.State.{State, first_state}
use Rattle.orca_core.specs.Machine.{Machine}
use Rattle.orca_core.proofs.Reached.{leads_more}
use Rattle.orca_parts.specs.Parts.{state_of}
use Rattle.orca_parts.specs.Ready.{FitsEvent}
use Rattle.orca_parts.specs.Touched.{touched_of, touched_token}
use Rattle.picture_rules.specs.Blocked.{note_line}
use Rattle.picture_rules.specs.Pictures.{entry_line, entry_lines, posted, print_line, printed}
use Rattle.book_picture.specs.Entries.{IsAfterRun, IsBefore, IsStateOfParts, told_lines}
use Rattle.book_picture.specs.Leaving.{LeavesOthers}
use Rattle.book_picture.specs.Texts.{AreTexts, AreTouched, HaveTexts}
use Rattle.book_picture.specs.declared.before.Before.{Before}
use Rattle.book_picture.specs.declared.texts.Texts.{Texts}
use Rattle.book_picture.proofs.Leaving.{run_leaves}
use Rattle.book_picture.proofs.Told.{changes_are}

-- ---- runs

-- a state after a run is reached by it, with its own program and options
pub reached_by : (program : Program) (options : Options) (book : List Event) (s : State) → IsRun program options book s → IsAfterRun s
reached_by program options book s run =
    let kept = runs_keep_program program options book s run in (
      book,
      subst (λ p. IsRun p s.options book s) (sym kept.same_program) (subst (λ o. IsRun program o book s) (sym kept.same_options) run),
    )

-- an event keeps the program
pub keeps_program : (s t : State) (e : Event) → IsAfterRun s → next s e ≡ Goes t → t.program ≡ s.program
keeps_program s t e (book, run) goes =
    (runs_keep_program s.program s.options (book ++ e ∷ []) t (leads_more book (first_state s.program s.options) s t e run goes)).same_program

-- ---- the lines of an entry

module _ (m : Machine) (e : Event) (t : State) (actors : List ℕ) (token : Option ℕ) (its : AreTouched e m.kept actors token) (is : IsStateOfParts m)
    (heavy : 0 < m.state.options.weight) (run : IsAfterRun m.state) (fits : FitsEvent m.state.options m.state.program e m.kept)
    (goes : next m.state e ≡ Goes t) where
  parts : State
  parts = state_of m.state.program m.state.options m.kept

  leaves : LeavesOthers (touched_of e m.kept) token m.state t
  leaves =
      subst (λ k. LeavesOthers (touched_of e m.kept) k m.state t) (sym its.number)
      (subst (λ s. LeavesOthers (touched_of e m.kept) (touched_token e m.kept) s t) (sym is)
      (run_leaves m.state.options m.state.program m.kept heavy run.0 (subst (λ s. IsRun m.state.program m.state.options run.0 s) is run.1) e t fits
      (subst (λ s. next s e ≡ Goes t) is goes)))

  pub entry_told : told_lines actors token e m.state t ≡ entry_lines e m.state t
  entry_told =
      ap (λ ls. entry_line e ∷ (map print_line (printed m.state t) ++ map note_line (posted e m.state t) ++ ls))
      (sym (changes_are m.state t (touched_of e m.kept) actors token its.rising its.same leaves))

-- the same of the event and the state that were there before it was prepared
pub told_at : (start : State) (m : Machine) (e x : Event) (t : State) (names : List (List ℕ)) (b : Before) → m.state ≡ start → x ≡ e → IsBefore names x m b
    → IsStateOfParts m → 0 < start.options.weight → IsAfterRun start → FitsEvent m.state.options m.state.program x m.kept → next m.state x ≡ Goes t
    → told_lines b.touched.actors.items b.touched.token e m.state t ≡ entry_lines e start t
told_at start m e x t names b state same its is heavy run fits goes =
    entry_told m e t b.touched.actors.items b.touched.token
    (subst (λ y. AreTouched y m.kept b.touched.actors.items b.touched.token) same its.touched) is
    (subst (λ (s : State). 0 < s.options.weight) (sym state) heavy) (subst IsAfterRun (sym state) run)
    (subst (λ y. FitsEvent m.state.options m.state.program y m.kept) same fits) (subst (λ y. next m.state y ≡ Goes t) same goes)
    ∙ ap (λ s. entry_lines e s t) state

-- ---- texts

-- there is a text of each
pub have_texts : (names : List (List ℕ)) (s : State) (actors : List ℕ) (token : Option ℕ) (texts : Texts) → AreTexts names s actors token texts → HaveTexts texts actors
have_texts names s actors token texts are = record {
  seats = sym (length-map texts.seats.items string_bytes) ∙ ap length are.seats ∙ length-map actors _;
  reports = sym (length-map texts.reports.items string_bytes) ∙ ap length are.reports ∙ length-map actors _;
}
