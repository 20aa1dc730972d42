-- What holds of reasons after a run.
use Rattle.std.proofs.Common.{◌≡◌, ◌↔◌, ◌<◌, ℕ, List, get_or, sym, ap, ◌∙◌}
use Rattle.std.proofs.lemmas.List.Elements.{Contains-get_or}
use Rattle.orca_names.specs.declared.names.Thing.{Thing}
use Rattle.orca_names.specs.declared.reason.Reason.{Reason}
use Rattle.orca_names.specs.declared.trace.Trace.{Trace}
use Rattle.orca_names.specs.declared.trace.Trace.TheVariants.{Deep}
use Rattle.behaviour_code.specs.declared.code.Program.{Program}
use Rattle.event_rule.specs.declared.event.Event.{Event}
use Rattle.reach_walk.specs.Reach.{thing_row}
use Rattle.reach_walk.specs.Rows.{Contains-map}
use Rattle.machine_rules.specs.Options.{Options}
use Rattle.machine_rules.specs.Run.{IsRun}
use Rattle.machine_rules.specs.State.{State}
use Rattle.plain_rules.specs.Machine.{PlainState, plain_row}
use Rattle.plain_rules.specs.Reach.{IsReachable}
use Rattle.count_laws.specs.Agreement.{people_of}
use Rattle.count_laws.proofs.agreement.Reachable.{lives_reachable, reachable_lives}
use Rattle.machine_laws.specs.AllFacts.{AllFacts}
use Rattle.machine_laws.proofs.AtQuiet.{quiet_exact}
use Rattle.machine_laws.proofs.WholeRuns.{reachable_left, run_has_deep, run_has_facts}
use Rattle.why_path.specs.Checks.{HoldsUp, is_loose}
use Rattle.why_path.specs.Laws.{IsKeptIn, KeptAreReachable, NoneLooseAtQuiet, ReasonsHoldUp}
use Rattle.why_path.specs.Reasons.{IsLedTo}
use Rattle.why_path.proofs.Finding.{line_found}
use Rattle.why_path.proofs.Holding.{kept_by_path, kept_line, reasons_hold}
use Rattle.why_path.proofs.Levels.{LeftAreLed}
use Rattle.why_path.proofs.Lives.{led_lives, lives_led}

module _ (trace : Trace) (p : PlainState) (s : State) (facts : AllFacts trace p s) where
  -- what a path leads to is reachable in the machine that frees nothing, and the other way round
  led_reachable : (k : ℕ) (x : Thing) → IsLedTo s.actors k x → IsReachable p x
  led_reachable k x led = lives_reachable p
      (led_lives trace (thing_row (plain_row p.actors)) (people_of p.actors) s.actors facts.beside.counts k x led)

  reachable_led : (x : Thing) → IsReachable p x → (k : ℕ) × IsLedTo s.actors k x
  reachable_led x r =
      lives_led trace (thing_row (plain_row p.actors)) (people_of p.actors) s.actors facts.beside.counts (reachable_lives p r)

  pub led_left : LeftAreLed s.actors
  led_left k x led = reachable_left trace p s facts x (led_reachable k x led)

  kept_reachable : (reasons : List Reason) → HoldsUp s.actors reasons → (x : Thing)
      → IsKeptIn reasons x ↔ IsReachable p x
  kept_reachable reasons holds x =
      let path = kept_by_path s.actors reasons holds led_left x in (
        λ kept. let led = path.0 kept in led_reachable led.0 x led.1,
        λ reach. path.1 (reachable_led x reach),
      )

-- after a run, what a path leads to is left
pub run_led_left : (program : Program) (options : Options) → 0 < options.weight → (book : List Event) (t : State)
    → IsRun program options book t → LeftAreLed t.actors
run_led_left program options heavy book t run =
    let facts = run_has_facts program options heavy book t run in
    led_left options.trace facts.0 t facts.2

pub are_reachable : KeptAreReachable
are_reachable program options heavy book t run =
    let facts = run_has_facts program options heavy book t run in
    (facts.0, facts.1, kept_reachable options.trace facts.0 t facts.2)

pub hold_up : ReasonsHoldUp
hold_up program options heavy book t run reasons are =
    reasons_hold t.actors reasons are (run_led_left program options heavy book t run)

pub none_loose : NoneLooseAtQuiet
none_loose program options heavy deep book t run quiet reasons holds k d l =
    let facts = run_has_deep program options heavy deep book t run in
    let r = get_or reasons k d in
    let c = Contains-get_or reasons k d l in
    let left = (holds.lists.left r.thing).0 (Contains-map (λ (q : Reason). q.thing) reasons r c) in
    let reach = (quiet_exact facts.0 t facts.2 quiet r.thing).0 left in
    let kept = kept_line reasons r.thing ((kept_reachable Deep facts.0 t facts.2 reasons holds r.thing).1 reach) in
    let both = sym kept.1 ∙ line_found reasons holds.lists.rising r c in
    let same : kept.0 ≡ r = cc in
    sym (ap (λ (q : Reason). is_loose q.why) same) ∙ kept.2
