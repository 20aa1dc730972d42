-- A run can go on to where only choices are enabled, and is quiet there if the plain machine is.
use Rattle.std.proofs.Common.{◌≡◌, ◌≢◌, ◌&&◌, ℕ, zero, suc, ◌≤◌, nat_lt, Bool, true, false, if◌then◌else◌, List, [], ◌∷◌, length, refl, ap, sym, subst, ◌∙◌, arith, ⊎_elim}
use Rattle.std.proofs.lemmas.Bool.{cases_Bool}
use Rattle.std.specs.Prelude.{is_none}
use Rattle.event_rule.specs.declared.event.Event.{Event}
use Rattle.letter_kinds.specs.Holdings.{with_made}
use Rattle.machine_rules.proofs.Enabling.{full}
use Rattle.count_laws.proofs.agreement.FollowingGo.{plain_went}
use Rattle.machine_rules.specs.Enabled.{IsRefusedAsFull}
use Rattle.machine_rules.specs.Go.{needed, turn_of_cell}
use Rattle.event_rule.specs.Runs.{IsQuiet, Leads, Step, NotEnabled, IsFull, Goes}
use Rattle.plain_rules.specs.Run.{plain_next}
use Rattle.machine_rules.specs.Next.{next}
use Rattle.orca_names.specs.declared.trace.Trace.{Trace}
use Rattle.orca_names.specs.declared.trace.Trace.TheVariants.{Deep}
use Rattle.orca_names.specs.declared.trace.Trace.TheVariants as trace
use Rattle.plain_rules.specs.Machine.{PlainState, after_act, stopped_at}
use Rattle.machine_rules.specs.Run.{PlainFollows, act_is_choice, choices, choices_after, go_is_choice, go_is_choice_at, is_choice}
use Rattle.machine_rules.specs.State.{State}
use Rattle.machine_laws.proofs.AtQuiet.{quiet_exact, quiet_exact_by_roots}
use Rattle.machine_laws.proofs.Calm.{IsCalm, some_or_none}
use Rattle.machine_laws.proofs.ComesToRest.{event_leaves_less}
use Rattle.machine_laws.proofs.WholeRuns.{event_keeps, run_has_deep, run_has_facts, run_has_roots}
use Rattle.machine_laws.specs.AllFacts.{AllFacts}
use Rattle.machine_laws.specs.Laws.{AwaitsChoices, GarbageIsGone, GarbageIsGoneByRoots, RunsCanRest}
use Rattle.machine_laws.specs.Work.{work_left}

-- ---- events that are no choice, as long as there are some

no_choices : (e : Event) (later : List Event) (s t : State) → is_choice s e ≡ false → next s e ≡ Goes t → choices later t ≡ [] → choices (e ∷ later) s ≡ []
no_choices e later s t calm goes none =
    ap (λ (q : Bool). if q then e ∷ choices_after (choices later) (next s e) else choices_after (choices later) (next s e)) calm ∙ (ap (choices_after (choices later)) goes ∙ none)

-- at the end no event is calm
abbrev GoesOn : State → Type 0
GoesOn s = (later : List Event) × (t : State) × Leads next s later t × (choices later s ≡ []) × ((e : Event) → ¬ IsCalm t e)

goes_on : (trace : Trace) (work : ℕ) (p : PlainState) (s : State) → AllFacts trace p s → work_left s ≤ work → GoesOn s
goes_on trace zero p s facts enough = ⊎_elim
    (λ some. let (e, (t, goes, calm)) = some in absurd (omega (arith, event_leaves_less trace p s t e facts goes calm)))
    (λ none. ([], s, refl, refl, none))
    (some_or_none s)
goes_on trace (suc work) p s facts enough = ⊎_elim
    (λ some.
    let (e, (t, goes, calm)) = some in
    let after = event_keeps trace p s t e facts goes in
    let (later, last, leads, none, end) = goes_on trace work after.0 t after.2 (omega (arith, event_leaves_less trace p s t e facts goes calm)) in
    (e ∷ later, last, (t, goes, leads), no_choices e later s t calm goes none, end))
    (λ none. ([], s, refl, refl, none))
    (some_or_none s)

-- ---- what is enabled there

-- a go that would make an actor too many is a choice
full_is_choice : (s : State) (e : Event) → IsRefusedAsFull s e → is_choice s e ≡ true
full_is_choice s e r =
    ap (is_choice s) r.is_go ∙ (ap (go_is_choice_at s.options.trace s.program r.actor) r.present ∙ (ap (go_is_choice s.options.trace s.program r.actor r.cell) r.framed
    ∙ (λ i. is_none (r.held i)
    && act_is_choice s.options.trace r.actor (with_made (turn_of_cell s.options.trace s.program r.actor r.cell r.frame).turn.made r.cell.holdings) (r.makes i))))

waits : (s : State) → ((e : Event) → ¬ IsCalm s e) → AwaitsChoices s
waits s none e enabled = by_step (next s e) refl
  where
    by_step : (step : Step State) → next s e ≡ step → is_choice s e ≡ true
    by_step NotEnabled off = absurd (enabled off)
    by_step (Goes t) goes = ⊎_elim (λ chosen. chosen) (λ calm. absurd (none e (t, goes, calm))) (cases_Bool (is_choice s e))
    by_step IsFull is = full_is_choice s e (full s e is)

-- ---- where the plain machine is quiet

-- it could go too, where a go is refused as full
plain_refused : (trace : Trace) (p : PlainState) (s : State) (e : Event) → AllFacts trace p s → IsRefusedAsFull s e → plain_next p e ≢ NotEnabled
plain_refused trace p s e facts r off =
    let stop = turn_of_cell trace s.program r.actor r.cell r.frame in
    let went = plain_went trace p s facts.beside r.actor r.cell r.mail r.present r.frame r.framed (sym (ap (λ q. needed q s.program r.actor r.cell r.frame) facts.beside.mode) ∙ r.held) in
    let act = ap (after_act p r.actor (stopped_at r.frame stop) stop.turn.fields stop.turn.made) (sym (ap (λ q. (turn_of_cell q s.program r.actor r.cell r.frame).act) facts.beside.mode) ∙ r.makes) in
    not_off _ (nat_lt (length p.actors) 65536) (sym (went ∙ act) ∙ (ap (plain_next p) (sym r.is_go) ∙ off))
  where
    not_off : (u : PlainState) (room : Bool) → (if room then Goes u else IsFull) ≢ NotEnabled
    not_off u true e = cc
    not_off u false e = cc

quiet_too : (trace : Trace) (p : PlainState) (s : State) → AllFacts trace p s → AwaitsChoices s → IsQuiet plain_next p → IsQuiet next s
quiet_too trace p s facts awaits quiet e = by_step (next s e) refl
  where
    by_step : (step : Step State) → next s e ≡ step → next s e ≡ NotEnabled
    by_step NotEnabled off = off
    by_step IsFull is = absurd (plain_refused trace p s e facts (full s e is) (quiet e))
    by_step (Goes t) goes =
        let chosen = awaits e (λ off. let same : NotEnabled ≡ Goes t = sym off ∙ goes in cc) in
        let after = event_keeps trace p s t e facts goes in
        let follows : plain_next p e ≡ Goes after.0 = subst (λ choice. PlainFollows choice p e after.0) chosen after.1 in
        let same : NotEnabled ≡ Goes after.0 = sym (quiet e) ∙ follows in cc

-- ---- the laws

pub runs_can_rest : RunsCanRest
runs_can_rest program options heavy book s run =
    let facts = run_has_facts program options heavy book s run in
    let (later, last, leads, calm, none) = goes_on options.trace (work_left s) facts.0 s facts.2 (omega arith) in
    record { later = later; last = last; leads = leads; calm = calm; waits = waits last none }

pub garbage_is_gone : GarbageIsGone
garbage_is_gone program options heavy deep book t run awaits =
    let facts = run_has_deep program options heavy deep book t run in
    (facts.0, facts.1, λ quiet. let rest = quiet_too Deep facts.0 t facts.2 awaits quiet in (rest, quiet_exact facts.0 t facts.2 rest))

-- with root-only tracing
pub garbage_is_gone_by_roots : GarbageIsGoneByRoots
garbage_is_gone_by_roots program options heavy roots book t run awaits =
    let facts = run_has_roots program options heavy roots book t run in
    (facts.0, facts.1, λ quiet. let rest = quiet_too trace.Roots facts.0 t facts.2 awaits quiet in (rest, quiet_exact_by_roots facts.0 t facts.2 rest))
