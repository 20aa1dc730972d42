-- A run is told entry by entry.
use Rattle.std.proofs.Common.{◌≡◌, ◌↔◌, ℕ, suc, ◌+◌, Bool, List, [], ◌∷◌, ◌++◌, Some, drop, slice_get, refl, ap, sym, subst, ◌∙◌, arith, append_assoc, drop-cons}
use Rattle.std.specs.Prelude.{IsTrue}
use Rattle.std.proofs.lemmas.List.{append-nil}
use Rattle.std.proofs.lemmas.Option.{get_or_from_slice_get, slice_get_within}
use Rattle.behaviour_code.specs.declared.code.Program.{Program}
use Rattle.event_rule.specs.Runs.{Goes, IsQuiet, Leads}
use Rattle.event_rule.specs.declared.event.Event.{Event}
use Rattle.event_rule.proofs.OneRun.{leads_to_one}
use Rattle.event_rule.proofs.Steps.{goes_to}
use Rattle.behaviour_text.specs.Text.{line_of}
use Rattle.machine_rules.specs.Next.{next}
use Rattle.machine_rules.specs.Options.{Options}
use Rattle.machine_rules.specs.Run.{IsRun}
use Rattle.machine_rules.specs.State.{State, first_state}
use Rattle.picture_rules.specs.Parts.{state_lines}
use Rattle.picture_rules.specs.Pictures.{IsPicture, Tell, end_line, entry_lines, head_lines}
use Rattle.picture_rules.specs.Words.{Line, text_of_lines}
use Rattle.picture_lines.proofs.Steps.{text-append}
use Rattle.book_picture.specs.Entries.{LeadsOn, TellsRun, TellsToTheEnd}
use Rattle.book_picture.proofs.Lists.{behind, one_behind}

-- what is told is a run
tells_leads : (s t : State) (book : List Event) (lines : List Line) → Tell s book t lines → Leads next s book t
tells_leads s t [] lines told = told.0
tells_leads s t (e ∷ book) lines told = (told.0, told.2, tells_leads told.0 t book told.1 told.4)

-- an entry more
tell_more : (s u t : State) (book : List Event) (e : Event) (lines : List Line) → Tell s book u lines → next u e ≡ Goes t
    → Tell s (book ++ e ∷ []) t (lines ++ entry_lines e u t)
tell_more s u t [] e lines told goes =
    let here = told.0 in (
      t,
      [],
      subst (λ w. next w e ≡ Goes t) (sym here) goes,
      ap (λ ls. ls ++ entry_lines e u t) told.1 ∙ ap (λ w. entry_lines e w t) (sym here) ∙ sym (append-nil (entry_lines e s t)),
      (refl, refl),
    )
tell_more s u t (f ∷ book) e lines told goes = (
  told.0,
  told.1 ++ entry_lines e u t,
  told.2,
  ap (λ ls. ls ++ entry_lines e u t) told.3 ∙ append_assoc (entry_lines f s told.0) told.1 (entry_lines e u t),
  tell_more told.0 u t book e told.1 told.4 goes,
)

-- nothing is told of no entry
pub none_told : (s : State) (bytes : List ℕ) → TellsRun s [] s bytes bytes
none_told s bytes = record { lines = []; told = (refl, refl); bytes = sym (append-nil bytes) }

-- the lines of an entry more
pub more_told : (s u t : State) (book : List Event) (e : Event) (old now later : List ℕ) → TellsRun s book u old now → next u e ≡ Goes t
    → later ≡ now ++ text_of_lines (entry_lines e u t) → TellsRun s (book ++ e ∷ []) t old later
more_told s u t book e old now later so_far goes more = record {
  lines = so_far.lines ++ entry_lines e u t;
  told = tell_more s u t book e so_far.lines so_far.told goes;
  bytes = behind so_far.lines (entry_lines e u t) old now later so_far.bytes more;
}

-- the head and all the rest are the picture
pub is_picture : (program : Program) (options : Options) (book : List Event) (head rest whole : List ℕ) (t : State)
    → IsRun program options book t → head ≡ text_of_lines (head_lines program options)
    → TellsToTheEnd (first_state program options) book [] rest → whole ≡ head ++ rest → IsPicture program options book t whole
is_picture program options book head rest whole t run first all is =
    let start = first_state program options in
    let same : all.state ≡ t = leads_to_one next book start all.state t (tells_leads start all.state book all.entries all.told) run in
    let heads = head_lines program options in
    let end = end_line all.is_quiet ∷ [] in
    let lines = state_lines start ++ all.entries ++ end in
    record {
      entries = all.entries;
      told = subst (λ u. Tell start book u all.entries) same all.told;
      is_quiet = all.is_quiet;
      end = subst (λ u. IsTrue all.is_quiet ↔ IsQuiet next u) same all.end;
      whole =
          is ∙ ap (λ h. h ++ rest) first ∙ ap (λ r. text_of_lines heads ++ r) all.bytes ∙ sym (text-append heads lines)
          ∙ ap text_of_lines (sym (append_assoc heads (state_lines start ++ all.entries) end) ∙ ap (λ ls. ls ++ end) (sym (append_assoc heads (state_lines start) all.entries)));
    }

-- ---- the rest of a run

rest_at : (entries : List Event) (i : ℕ) (e : Event) → slice_get entries i ≡ Some e → drop i entries ≡ e ∷ drop (i + 1) entries
rest_at entries i e at =
    let after : suc i ≡ i + 1 = omega arith in
    drop-cons entries i e (slice_get_within entries i e at)
    ∙ ap (λ x. x ∷ drop (suc i) entries) (get_or_from_slice_get entries i e e at)
    ∙ ap (λ n. e ∷ drop n entries) after

module _ (entries : List Event) (i : ℕ) (e : Event) (s : State) (at : slice_get entries i ≡ Some e)
    (rest : (t : State) × Leads next s (drop i entries) t) where
  begins : Leads next s (e ∷ drop (i + 1) entries) rest.0
  begins = subst (λ es. Leads next s es rest.0) (rest_at entries i e at) rest.1

  -- the entry there leads on
  pub leads_on : LeadsOn s e
  leads_on = (begins.0, begins.1)

  -- and after it the rest is still to come
  pub still_leads : (u : State) → next s e ≡ Goes u → (t : State) × Leads next u (drop (i + 1) entries) t
  still_leads u goes =
      (rest.0, subst (λ v. Leads next v (drop (i + 1) entries) rest.0) (goes_to begins.0 u (sym begins.1 ∙ goes)) begins.2)

-- ---- all of it

-- the first state, the entries and the end are all
pub all_told : (s t : State) (book : List Event) (is_quiet : Bool) (old first now later : List ℕ)
    → first ≡ old ++ text_of_lines (state_lines s) → TellsRun s book t first now → (IsTrue is_quiet ↔ IsQuiet next t)
    → later ≡ now ++ line_of (end_line is_quiet) → TellsToTheEnd s book old later
all_told s t book is_quiet old first now later start run end last =
    record {
      state = t;
      entries = run.lines;
      told = run.told;
      is_quiet = is_quiet;
      end = end;
      bytes =
          behind (state_lines s ++ run.lines) (end_line is_quiet ∷ []) old now later
          (behind (state_lines s) run.lines old first now start run.bytes) (one_behind (end_line is_quiet) now later last);
    }
