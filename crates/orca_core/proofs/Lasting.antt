-- What every run keeps holds of the machine.
use Rattle.std.proofs.Common.{◌≡◌, ◌<◌, [], List, refl, sym, subst, arith}
use Rattle.std.proofs.lemmas.List.{append-nil}
use Rattle.orca_names.specs.declared.trace.Trace.{Trace}
use Rattle.orca_names.specs.declared.trace.Trace.TheVariants.{Deep, Roots}
use Rattle.behaviour_code.specs.declared.code.Program.{Program}
use Rattle.event_rule.specs.Runs.{IsQuiet}
use Rattle.event_rule.specs.declared.event.Event.{Event}
use Rattle.event_rule.proofs.OneRun.{leads_to_one}
use Rattle.machine_rules.specs.Next.{next}
use Rattle.machine_rules.specs.Options.{Options}
use Rattle.machine_rules.specs.Run.{IsPlainBeside, IsRun, choices}
use Rattle.machine_rules.specs.State.{State, first_state}
use Rattle.plain_rules.specs.Machine.{PlainState, start_of}
use Rattle.plain_rules.specs.Run.{plain_next}
use Rattle.machine_laws.specs.AllFacts.{AllFacts}
use Rattle.machine_laws.specs.Laws.{AwaitsChoices, IsNeverTooEarly, IsLeftExactly}
use Rattle.machine_laws.proofs.AtQuiet.{quiet_exact, quiet_exact_by_roots, traced_by_roots}
use Rattle.machine_laws.proofs.ComesToRest.{rests_between_choices}
use Rattle.machine_laws.proofs.Counting.{runs_count_in_few_bits}
use Rattle.machine_laws.proofs.GoesToRest.{garbage_is_gone, garbage_is_gone_by_roots, runs_can_rest}
use Rattle.machine_laws.proofs.WholeRuns.{never_too_early, run_has_facts}
use Rattle.orca_core.specs.Laws.{ComesToRest, CountsInFewBits, IsExactAtQuiet, IsTracedByRoots, KeepsTheReachable}
use Rattle.orca_core.specs.Machine.{IsReached, Machine}

-- a whole run is never too early
pub whole_run : (program : Program) (options : Options) → 0 < options.weight → (book : List Event) (s : State) → IsRun program options book s
    → IsNeverTooEarly program options book s
whole_run program options heavy book s run =
    let z = never_too_early program options heavy book [] s (subst (λ b. IsRun program options b s) (sym (append-nil book)) run) in
    subst (IsNeverTooEarly program options book) (leads_to_one next book (first_state program options) z.0 s z.1 run) z.2

exact_at : (trace : Trace) (p : PlainState) (s : State) → AllFacts trace p s → IsQuiet next s → IsLeftExactly trace p s.actors
exact_at Deep p s facts quiet = quiet_exact p s facts quiet
exact_at Roots p s facts quiet = quiet_exact_by_roots p s facts quiet

-- where only choices are enabled, and the machine that frees nothing is quiet, no event is enabled
quiet_with : (trace : Trace) (program : Program) (options : Options) → options.trace ≡ trace → 0 < options.weight → (book : List Event) (s : State)
    → IsRun program options book s → (p : PlainState) → IsPlainBeside program options book p → AwaitsChoices s → IsQuiet plain_next p → IsQuiet next s
quiet_with Deep program options is heavy book s run p beside awaits quiet =
    let gone = garbage_is_gone program options heavy is book s run awaits in
    let same = leads_to_one plain_next (choices book (first_state program options)) (start_of program) p gone.0 beside gone.1 in
    (gone.2 (subst (IsQuiet plain_next) same quiet)).0
quiet_with Roots program options is heavy book s run p beside awaits quiet =
    let gone = garbage_is_gone_by_roots program options heavy is book s run awaits in
    let same = leads_to_one plain_next (choices book (first_state program options)) (start_of program) p gone.0 beside gone.1 in
    (gone.2 (subst (IsQuiet plain_next) same quiet)).0

module _ (m : Machine) (reached : IsReached m.state m.steps) where
  pub keeps_the_reachable : KeepsTheReachable m
  keeps_the_reachable = record {
    book = reached.book;
    run = record { run = reached.run; long = reached.long };
    kept = whole_run m.state.program m.state.options reached.heavy reached.book m.state reached.run;
  }

  pub is_traced_by_roots : IsTracedByRoots m
  is_traced_by_roots roots = traced_by_roots m.state.program m.state.options reached.heavy roots reached.book m.state reached.run

  pub is_exact_at_quiet : IsExactAtQuiet m
  is_exact_at_quiet =
      let options = m.state.options in
      let facts = run_has_facts m.state.program options reached.heavy reached.book m.state reached.run in
      record {
        book = reached.book;
        run = record { run = reached.run; long = reached.long };
        plain = facts.0;
        beside = facts.1;
        exact = exact_at options.trace facts.0 m.state facts.2;
        garbage = λ awaits quiet.
            let still = quiet_with options.trace m.state.program options refl reached.heavy reached.book m.state reached.run facts.0 facts.1 awaits quiet in
            (still, exact_at options.trace facts.0 m.state facts.2 still);
      }

  pub comes_to_rest : ComesToRest m
  comes_to_rest = record {
    can = runs_can_rest m.state.program m.state.options reached.heavy reached.book m.state reached.run;
    less = λ later t leads calm.
        rests_between_choices m.state.program m.state.options reached.heavy reached.book later m.state t reached.run leads calm;
  }

  pub counts_in_few_bits : CountsInFewBits m
  counts_in_few_bits =
      let few = runs_count_in_few_bits m.state.program m.state.options reached.heavy reached.book m.state reached.run
      (omega (arith, reached.long, reached.early)) reached.light in
      record { counts = few.0; told = few.1; tokens = few.2 }
