-- All facts hold at the start, are kept by every event, and so hold after each run and each of its prefixes.
use Rattle.std.proofs.Common.{◌≡◌, ◌<◌, Bool, true, false, List, [], ◌∷◌, ◌++◌, refl, sym, ◌∙◌, subst}
use Rattle.std.specs.Prelude.{if◌then◌else◌}
use Rattle.orca_names.specs.declared.names.Thing.{Thing}
use Rattle.behaviour_code.specs.declared.code.Program.{Program}
use Rattle.reach_walk.specs.Reach.{thing_row}
use Rattle.event_rule.specs.declared.event.Event.{Event}
use Rattle.event_rule.specs.declared.event.Event.TheVariants.{Take, Go, Collect, Leave, Block, Hear, Scan, Reap}
use Rattle.count_laws.proofs.events.Acting.{Beside, collects_keep, goes_keep, leaves_keep, takes_keep}
use Rattle.count_laws.proofs.local.Cleaning.{clean-first, clean-next}
use Rattle.count_laws.proofs.events.EitherMode.{lives_left}
use Rattle.count_laws.specs.Facts.{KeepsCounts}
use Rattle.count_laws.proofs.letters.Named.{named_left}
use Rattle.count_laws.proofs.letters.Reached.{reached_left, rows_left}
use Rattle.count_laws.proofs.local.NoSelf.{no_self-first, no_self-next}
use Rattle.count_laws.proofs.letters.OwnLetters.{runs_name_own}
use Rattle.count_laws.proofs.agreement.Reachable.{reachable_lives}
use Rattle.count_laws.proofs.roots.Clean.{roots_clean-first, roots_clean-next}
use Rattle.count_laws.proofs.events.Start as starting
use Rattle.count_laws.specs.Agreement.{people_of}
use Rattle.machine_rules.specs.Left.{IsLeft}
use Rattle.event_rule.specs.Runs.{Leads, Step, Goes}
use Rattle.plain_rules.specs.Run.{plain_next}
use Rattle.machine_rules.specs.Next.{next}
use Rattle.orca_names.specs.declared.trace.Trace.{Trace}
use Rattle.orca_names.specs.declared.trace.Trace.TheVariants.{Deep, Roots}
use Rattle.machine_rules.specs.Options.{Options}
use Rattle.plain_rules.specs.Machine.{PlainState, plain_row, start_of}
use Rattle.plain_rules.specs.Reach.{IsReachable}
use Rattle.machine_rules.specs.Run.{IsPlainBeside, IsRun, PlainFollows, choices, choices_after, is_choice}
use Rattle.machine_rules.specs.State.{State, first_state}
use Rattle.machine_laws.proofs.Keeping.{block_beside, hear_beside, next_keeps, reap_beside, scan_beside}
use Rattle.machine_laws.proofs.Starting.{start_detects}
use Rattle.machine_laws.specs.AllFacts.{AllFacts}
use Rattle.machine_laws.specs.Laws.{EventsKeepAllFacts, IsNeverTooEarly, NeverTooEarly, RunsHaveAllFacts, StartHasAllFacts}

pub start_all : StartHasAllFacts
start_all program options heavy = record {
  beside = starting.start_facts program options heavy;
  own = no_self-first program options;
  clean = λ deep. clean-first program options;
  marked = λ roots. roots_clean-first program options;
  detector = start_detects program options;
}

-- ---- one event

module _ (trace : Trace) (p : PlainState) (s t : State) (facts : AllFacts trace p s) where
  beside_after : (e : Event) → next s e ≡ Goes t → Beside trace (is_choice s e) p e t
  beside_after (Take a) goes = takes_keep a trace p s t facts.beside goes
  beside_after (Go a) goes = goes_keep a trace p s t facts.beside goes
  beside_after (Collect a) goes = collects_keep a trace p s t facts.beside goes
  beside_after (Leave a) goes = leaves_keep a trace p s t facts.beside goes
  beside_after (Block a) goes = (p, refl, block_beside trace p s t facts.beside facts.detector a goes)
  beside_after Hear goes = (p, refl, hear_beside trace p s t facts.beside facts.detector goes)
  beside_after Scan goes = (p, refl, scan_beside trace p s t facts.beside facts.detector goes)
  beside_after (Reap token) goes = (p, refl, reap_beside trace p s t facts.beside facts.detector token goes)

pub event_keeps : EventsKeepAllFacts
event_keeps trace p s t e facts goes =
    let beside = beside_after trace p s t facts e goes in (
      beside.0,
      beside.1,
      record {
        beside = beside.2;
        own = no_self-next s t e goes facts.own;
        clean = λ deep. clean-next s t e (facts.beside.mode ∙ deep) goes (facts.clean deep);
        marked = λ roots. roots_clean-next s t e (facts.beside.mode ∙ roots) goes (facts.marked roots);
        detector = next_keeps trace p s t facts.beside facts.detector facts.own e goes;
      },
    )

-- ---- runs

abbrev Arrives : Trace → PlainState → List Event → State → Type 0
Arrives trace p events t = (q : PlainState) × Leads plain_next p events q × AllFacts trace q t

after_event : (trace : Trace) (choice : Bool) (p q : PlainState) (e : Event) (events : List Event) (t : State) → PlainFollows choice p e q → Arrives trace q events t → Arrives trace p (if choice then e ∷ events else events) t
after_event trace true p q e events t follows later = (later.0, (q, follows, later.1), later.2)
after_event trace false p q e events t follows later = subst (λ r. Arrives trace r events t) (sym follows) later

pub leads_on : (trace : Trace) (book : List Event) (p : PlainState) (s t : State) → AllFacts trace p s → Leads next s book t → Arrives trace p (choices book s) t
leads_on trace [] p s t facts same = (p, refl, subst (AllFacts trace p) same facts)
leads_on trace (e ∷ book) p s t facts leads =
    let u = leads.0 in
    let goes = leads.1 in
    let mid = event_keeps trace p s u e facts goes in
    let rest = leads_on trace book mid.0 u t mid.2 leads.2 in
    let one = after_event trace (is_choice s e) p mid.0 e (choices book u) t mid.1 rest in
    subst (λ (step : Step State). Arrives trace p (if is_choice s e then e ∷ choices_after (choices book) step else choices_after (choices book) step) t) (sym goes) one

pub run_has_facts : RunsHaveAllFacts
run_has_facts program options heavy book t run = leads_on options.trace book (start_of program) (first_state program options) t (start_all program options heavy) run

-- with deep tracing
pub run_has_deep : (program : Program) (options : Options) → 0 < options.weight → options.trace ≡ Deep → (book : List Event) (t : State) → IsRun program options book t → (p : PlainState) × IsPlainBeside program options book p × AllFacts Deep p t
run_has_deep program options heavy deep book t run = let facts = run_has_facts program options heavy book t run in (facts.0, facts.1, subst (λ q. AllFacts q facts.0 t) deep facts.2)

-- with root-only tracing
pub run_has_roots : (program : Program) (options : Options) → 0 < options.weight → options.trace ≡ Roots → (book : List Event) (t : State) → IsRun program options book t → (p : PlainState) × IsPlainBeside program options book p × AllFacts Roots p t
run_has_roots program options heavy roots book t run = let facts = run_has_facts program options heavy book t run in (facts.0, facts.1, subst (λ q. AllFacts q facts.0 t) roots facts.2)

-- ---- prefixes

prefix_leads : (book later : List Event) (s t : State) → Leads next s (book ++ later) t → (u : State) × Leads next s book u
prefix_leads [] later s t leads = (s, refl)
prefix_leads (e ∷ book) later s t leads = let rest = prefix_leads book later leads.0 t leads.2 in (rest.0, (leads.0, leads.1, rest.1))

pub reachable_left : (trace : Trace) (p : PlainState) (s : State) → AllFacts trace p s → (x : Thing) → IsReachable p x → IsLeft s.actors x
reachable_left trace p s facts x r = lives_left trace (thing_row (plain_row p.actors)) (people_of p.actors) s.actors facts.beside.counts x (reachable_lives p r)

pub never_early : (program : Program) (options : Options) → 0 < options.weight → (book : List Event) (s : State) → IsRun program options book s → IsNeverTooEarly program options book s
never_early program options heavy book s run =
    let facts = run_has_facts program options heavy book s run in
    record {
      plain = facts.0;
      follows = facts.1;
      prints = facts.2.beside.prints;
      balanced = facts.2.beside.counts.balanced;
      covered = facts.2.beside.counts.prefixes;
      left = reachable_left options.trace facts.0 s facts.2;
      freed = λ x gone r. gone.1 (reachable_left options.trace facts.0 s facts.2 x r);
      named = named_left options.trace (thing_row (plain_row facts.0.actors)) (people_of facts.0.actors) s.actors facts.2.beside.counts (runs_name_own program options book s run);
      reached = reached_left options.trace (thing_row (plain_row facts.0.actors)) (people_of facts.0.actors) s.actors facts.2.beside.counts;
      rows = λ roots. rows_left (thing_row (plain_row facts.0.actors)) (people_of facts.0.actors) s.actors
          (subst (λ trace. KeepsCounts trace (thing_row (plain_row facts.0.actors)) (people_of facts.0.actors) s.actors) roots facts.2.beside.counts);
    }

pub never_too_early : NeverTooEarly
never_too_early program options heavy book later t run = let u = prefix_leads book later (first_state program options) t run in (u.0, u.1, never_early program options heavy book u.0 u.1)
