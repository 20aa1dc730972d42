-- Between choices a run comes to rest.
use Rattle.std.proofs.Common.{◌≡◌, ◌+◌, ◌≤◌, ◌<◌, Bool, true, false, if◌then◌else◌, List, [], ◌∷◌, length, refl, ap, sym, subst, ◌∙◌, arith}
use Rattle.event_rule.specs.declared.event.Event.{Event}
use Rattle.count_laws.specs.Agreement.{people_of}
use Rattle.event_rule.specs.Runs.{Leads}
use Rattle.machine_rules.specs.Next.{next}
use Rattle.plain_rules.specs.Machine.{PlainState}
use Rattle.machine_rules.specs.Run.{PlainFollows, choices, choices_after, is_choice}
use Rattle.orca_names.specs.declared.trace.Trace.{Trace}
use Rattle.machine_rules.specs.State.{State}
use Rattle.machine_laws.proofs.LeavesLess.{leaves_less, work_of}
use Rattle.machine_laws.proofs.Scanning.{few_asked}
use Rattle.machine_laws.proofs.WholeRuns.{event_keeps, run_has_facts}
use Rattle.machine_laws.specs.AllFacts.{AllFacts}
use Rattle.machine_laws.specs.Laws.{RestsBetweenChoices, EventsLeaveLess}
use Rattle.machine_laws.specs.Work.{work_left}

pub event_leaves_less : EventsLeaveLess
event_leaves_less trace p s t e facts goes calm =
    let less = leaves_less (length s.actors) s facts.beside.weight (few_asked s.actors s.detector s.notes facts.detector.rising facts.detector.reports) t e goes calm in
    let after = event_keeps trace p s t e facts goes in
    let still : p ≡ after.0 = subst (λ choice. PlainFollows choice p e after.0) calm after.1 in
    let long : length t.actors ≡ length s.actors = sym after.2.beside.counts.long ∙ (ap (λ (q : PlainState). length (people_of q.actors)) (sym still) ∙ facts.beside.counts.long) in
    subst (λ n. work_of n t < work_left s) (sym long) less

no_choice : (choice : Bool) (e : Event) (later : List Event) → (if choice then e ∷ later else later) ≡ [] → (choice ≡ false) × (later ≡ [])
no_choice true e later none = cc
no_choice false e later none = (refl, none)

rests : (trace : Trace) (later : List Event) (p : PlainState) (s t : State) → AllFacts trace p s → Leads next s later t → choices later s ≡ [] → length later + work_left t ≤ work_left s
rests trace [] p s t facts same none = omega (arith, ap work_left same)
rests trace (e ∷ later) p s t facts (u, goes, leads) none =
    let calm = no_choice (is_choice s e) e (choices_after (choices later) (next s e)) none in
    let after = event_keeps trace p s u e facts goes in
    omega (arith, event_leaves_less trace p s u e facts goes calm.0, rests trace later after.0 u t after.2 leads (sym (ap (choices_after (choices later)) goes) ∙ calm.1))

pub rests_between_choices : RestsBetweenChoices
rests_between_choices program options heavy book later s t run leads none =
    let facts = run_has_facts program options heavy book s run in
    rests options.trace later facts.0 s t facts.2 leads none
