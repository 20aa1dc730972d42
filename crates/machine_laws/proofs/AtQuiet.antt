-- Where a run ends quiet, exactly what is reachable is left, and the detector rests.
use Rattle.std.specs.Prelude.{◌↔◌, Contains}
use Rattle.std.proofs.Common.{◌≡◌, ◌≢◌, ℕ, zero, suc, ◌<◌, true, Option, Some, None, List, [], ◌∷◌, refl, sym, ap, subst, ◌∙◌, arith}
use Rattle.std.proofs.lemmas.Bool.{false≢true}
use Rattle.orca_names.specs.declared.names.Thing.{Thing}
use Rattle.orca_names.specs.declared.names.Thing.TheVariants.{Actor}
use Rattle.reach_walk.specs.Reach.{thing_row}
use Rattle.letter_kinds.specs.Detector.{Token}
use Rattle.letter_kinds.specs.Holdings.{held_in}
use Rattle.letter_kinds.specs.Reports.{kept_report}
use Rattle.letter_kinds.specs.Letters.{Letter}
use Rattle.letter_kinds.specs.declared.note.Report.{Report}
use Rattle.count_laws.proofs.rest.Needs.{AllNeeded, IsNeeded, is_held, is_pinned, left_is_exact}
use Rattle.machine_rules.proofs.Rest.{quiet_rest}
use Rattle.count_laws.proofs.balance.InHand.{in_hand}
use Rattle.count_laws.proofs.roots.Left.{prefix_backed}
use Rattle.count_laws.proofs.roots.AtQuiet.{exact_by_roots}
use Rattle.machine_rules.specs.Actors.{Seat, cell_at, cell_of, seat, seat_at}
use Rattle.count_laws.specs.Agreement.{people_of}
use Rattle.machine_rules.specs.Cell.{Cell}
use Rattle.machine_rules.specs.Left.{IsLeft}
use Rattle.count_laws.specs.LeftByRoots.{IsReachedOrHeld}
use Rattle.event_rule.specs.Runs.{IsQuiet}
use Rattle.machine_rules.specs.Next.{next}
use Rattle.plain_rules.specs.Reach.{IsReachable}
use Rattle.plain_rules.specs.Machine.{PlainState, plain_row}
use Rattle.orca_names.specs.declared.trace.Trace.{Trace}
use Rattle.orca_names.specs.declared.trace.Trace.TheVariants.{Deep}
use Rattle.orca_names.specs.declared.trace.Trace.TheVariants as trace
use Rattle.machine_rules.specs.State.{State}
use Rattle.reach_walk.proofs.Elements.{Contains-head}
use Rattle.detector_laws.proofs.Cells.{same_some, some_not_none}
use Rattle.detector_laws.proofs.Quiet.{no_token}
use Rattle.detector_laws.specs.Cells.{held_on}
use Rattle.detector_laws.specs.Quiet as view
use Rattle.detector_laws.specs.Reports.{IsAsTold, IsReportOf, told_by_kept, told_of}
use Rattle.machine_laws.proofs.Quieting.{quiet_reached, quiet_world}
use Rattle.machine_laws.proofs.Seen.{world}
use Rattle.machine_laws.proofs.WholeRuns.{run_has_deep, run_has_facts, run_has_roots}
use Rattle.machine_laws.specs.AllFacts.{AllFacts}
use Rattle.machine_laws.specs.Laws.{DetectorRests, DetectorRestsAtQuiet, ExactlyAtQuiet, ExactlyAtQuietByRoots, RunsAreTracedByRoots}

-- ---- who is reached in the detector's view is needed

module _ (s : State) where
  by_pin : (a : ℕ) (c : Cell) (o : Option Seat) → seat_at s.actors a ≡ o → cell_of o ≡ Some c → c.fields.pinned ≡ true → IsNeeded s.actors a
  by_pin a c None at here pin = absurd (some_not_none here refl)
  by_pin a c (Some o) at here pin = let same : o.cell ≡ c = cc in is_pinned at (ap (λ (c : Cell). c.fields.pinned) same ∙ pin)

  by_hold : (a b : ℕ) (o : Option Seat) → seat_at s.actors a ≡ o → IsNeeded s.actors a → held_on (cell_of o) b ≢ 0 → IsNeeded s.actors b
  by_hold a b None at n h = absurd (h refl)
  by_hold a b (Some o) at n h = is_held n at (some_held (held_in o.cell.holdings (Actor b)) h)
    where
      some_held : (n : ℕ) → n ≢ 0 → 0 < n
      some_held zero h = absurd (h refl)
      some_held (suc n) h = omega arith

  reached_needed : {a : ℕ} → view.IsReached (world s) a → IsNeeded s.actors a
  reached_needed (view.root {a = a} {c = c} here pin) = by_pin a c (seat_at s.actors a) refl here pin
  reached_needed (view.edge {b = b} {a = a} path holds) = by_hold b a (seat_at s.actors b) refl (reached_needed path) holds

  all_needed : (trace : Trace) (p : PlainState) → AllFacts trace p s → IsQuiet next s → AllNeeded s.actors
  all_needed trace p facts quiet a c mail at =
      reached_needed (quiet_reached trace s (thing_row (plain_row p.actors)) (people_of p.actors) facts.beside.counts facts.own facts.detector quiet a c (ap cell_of at))

pub quiet_exact : (p : PlainState) (s : State) → AllFacts Deep p s → IsQuiet next s → (x : Thing) → IsLeft s.actors x ↔ IsReachable p x
quiet_exact p s facts quiet = left_is_exact p s facts.beside (facts.clean refl) (quiet_rest s quiet) (all_needed s Deep p facts quiet)

pub exactly_at_quiet : ExactlyAtQuiet
exactly_at_quiet program options heavy deep book t run quiet = let facts = run_has_deep program options heavy deep book t run in (facts.0, facts.1, quiet_exact facts.0 t facts.2 quiet)

-- with root-only tracing
pub traced_by_roots : RunsAreTracedByRoots
traced_by_roots program options heavy roots book t run =
    let facts = run_has_roots program options heavy roots book t run in
    let all = facts.2 in
    let counts = all.beside.counts in
    record {
      covered = counts.prefixes;
      marked = all.marked refl;
      named = λ a c mail at. (counts.sound a c mail at).named;
      backed = λ a c mail at x k o h. prefix_backed (thing_row (plain_row facts.0.actors)) t.actors (in_hand t.actors counts.balanced) counts.sound counts.bare x a c mail at o k h;
    }

pub quiet_exact_by_roots : (p : PlainState) (s : State) → AllFacts trace.Roots p s → IsQuiet next s → (x : Thing) → IsLeft s.actors x ↔ IsReachedOrHeld p s.actors x
quiet_exact_by_roots p s facts quiet = exact_by_roots p s.actors facts.beside.counts (facts.marked refl) (quiet_rest s quiet) (all_needed s trace.Roots p facts quiet)

pub quiet_by_roots : ExactlyAtQuietByRoots
quiet_by_roots program options heavy roots book t run quiet =
    let facts = run_has_roots program options heavy roots book t run in (facts.0, facts.1, quiet_exact_by_roots facts.0 t facts.2 quiet)

-- ---- the detector

none_open : (tokens : List Token) → ((t : Token) → ¬ Contains tokens t) → tokens ≡ []
none_open [] none = refl
none_open (t ∷ tokens) none = absurd (none t (Contains-head t tokens))

module _ (trace : Trace) (s : State) (p : PlainState) (facts : AllFacts trace p s) (quiet : IsQuiet next s) where
  rests : view.IsQuiet (world s)
  rests = quiet_world s quiet facts.detector

  told : (a : ℕ) (c : Cell) (mail : List Letter) → seat_at s.actors a ≡ seat c mail → IsAsTold (Some c) a (told_by_kept (kept_report s.detector.kept a))
  told a c mail at =
      subst (λ o. IsAsTold (cell_of o) a (told_by_kept (kept_report s.detector.kept a))) at
      (subst (λ notes. IsAsTold (cell_at s.actors a) a (told_of a s.detector.kept notes)) rests.heard (facts.detector.reports.last a))

  kept : (a : ℕ) (c : Cell) → c.reported ≡ true → (found : Option Report) → kept_report s.detector.kept a ≡ found → IsAsTold (Some c) a (told_by_kept found)
      → (r : Report) × (kept_report s.detector.kept a ≡ Some r) × IsReportOf a c r
  kept a c out None is unreported = absurd (false≢true (sym unreported ∙ out))
  kept a c out (Some r) is (blocked, exact) = (r, is, subst (λ c. IsReportOf a c r) (same_some blocked.here refl) exact)

  pub detector_rests : DetectorRests s
  detector_rests = record {
    notes = rests.heard;
    news = rests.scanned;
    tokens = none_open s.detector.tokens (no_token (world s) rests facts.detector.tokens);
    reports = λ a c mail at free. kept a c (rests.told a c (ap cell_of at) free) (kept_report s.detector.kept a) refl (told a c mail at);
  }

pub detector_at_quiet : DetectorRestsAtQuiet
detector_at_quiet program options heavy book t run quiet = let facts = run_has_facts program options heavy book t run in detector_rests options.trace t facts.0 facts.2 quiet
