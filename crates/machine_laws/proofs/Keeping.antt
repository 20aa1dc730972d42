-- Each event keeps what holds of the detector; those that the plain machine does not do keep what is kept of the counts.
use Rattle.std.proofs.Common.{◌≡◌, ℕ, true, Option, Some, List}
use Rattle.orca_names.specs.declared.names.Thing.{Thing}
use Rattle.orca_names.specs.declared.names.Thing.TheVariants.{Actor}
use Rattle.reach_walk.specs.Reach.{thing_row}
use Rattle.event_rule.specs.declared.event.Event.{Event}
use Rattle.event_rule.specs.declared.event.Event.TheVariants.{Block, Hear, Scan, Reap}
use Rattle.letter_kinds.specs.Detector.{Token, all_acked, token_numbered}
use Rattle.letter_kinds.specs.Holdings.{Row}
use Rattle.orca_names.specs.declared.trace.Trace.{Trace}
use Rattle.machine_rules.specs.Actors.{cell_at, mail_at, Every}
use Rattle.count_laws.specs.Agreement.{Person, people_of}
use Rattle.machine_rules.specs.Balance.{load_sum}
use Rattle.count_laws.specs.Clean.{HoldsNoOwnAt}
use Rattle.count_laws.specs.Facts.{Facts}
use Rattle.event_rule.specs.Runs.{Goes}
use Rattle.machine_rules.specs.Next.{next}
use Rattle.plain_rules.specs.Machine.{PlainState, plain_row}
use Rattle.machine_rules.specs.State.{State}
use Rattle.detector_laws.proofs.Named.{numbered_is_open}
use Rattle.detector_laws.proofs.Reap.{reaped_sealed}
use Rattle.detector_laws.proofs.Steps.{step_keeps}
use Rattle.detector_laws.specs.Tokens.{IsSealed}
use Rattle.detector_laws.specs.World.{FactsHold}
use Rattle.machine_laws.proofs.Balancing.{balanced}
use Rattle.machine_laws.proofs.Blocking.{block_keeps}
use Rattle.machine_laws.proofs.Reaping.{reap_reaps}
use Rattle.machine_laws.proofs.Scanning.{confirms_all, scan_keeps}
use Rattle.machine_laws.proofs.Sealing.{members_keep}
use Rattle.machine_laws.proofs.Seen.{world}
use Rattle.machine_laws.proofs.Stepping.{next_steps}
use Rattle.machine_rules.specs.Rules as rule
use Rattle.machine_rules.proofs.Guards.{acked_open}
use Rattle.count_laws.proofs.agreement.Follows.{step_here}

module _ (trace : Trace) (p : PlainState) (s t : State) (beside : Facts trace p s) (facts : FactsHold (world s)) where
  abbrev all : Thing → Option Row
  all = thing_row (plain_row p.actors)

  abbrev people : List Person
  people = people_of p.actors

  -- every event keeps what holds of the detector
  pub next_keeps : Every HoldsNoOwnAt s.actors → (e : Event) → next s e ≡ Goes t → FactsHold (world t)
  next_keeps own e is =
      step_keeps (world s) (world t) (balanced s.actors s.detector s.notes beside.counts.balanced own) (next_steps trace p s beside facts t e is) facts

  -- a token that is reaped is sealed
  pub token_sealed : (number : ℕ) (token : Token) → token_numbered number s.detector ≡ Some token → all_acked token ≡ true → IsSealed (cell_at s.actors) (mail_at s.actors) (λ x. load_sum (Actor x) s.actors) s.notes token
  token_sealed number token at acked =
      reaped_sealed (world s) _ token (reap_reaps s.actors s.detector s.notes token trace all people beside.counts (numbered_is_open s.detector number token at).0 acked) facts.tokens

  -- ---- the events that the plain machine does not do

  block_step : {a : ℕ} {u : State} → rule.IsStep trace s (Block a) u → Facts trace p u
  block_step (rule.blocks a c ls at may) =
      record { counts = block_keeps s.actors a c ls at trace all people beside.counts; program = beside.program; prints = beside.prints; objects = beside.objects; weight = beside.weight; mode = beside.mode }

  pub block_beside : (a : ℕ) → next s (Block a) ≡ Goes t → Facts trace p t
  block_beside a goes = block_step (step_here trace p s beside t (Block a) goes)

  hear_step : {u : State} → rule.IsStep trace s Hear u → Facts trace p u
  hear_step (rule.hears note later is) =
      record { counts = beside.counts; program = beside.program; prints = beside.prints; objects = beside.objects; weight = beside.weight; mode = beside.mode }

  pub hear_beside : next s Hear ≡ Goes t → Facts trace p t
  hear_beside goes = hear_step (step_here trace p s beside t Hear goes)

  scan_step : {u : State} → rule.IsStep trace s Scan u → Facts trace p u
  scan_step (rule.scans is) =
      record { counts = scan_keeps s.actors s.detector s.notes facts.rising facts.reports trace all (confirms_all trace all) people beside.counts; program = beside.program; prints = beside.prints; objects = beside.objects; weight = beside.weight; mode = beside.mode }

  pub scan_beside : next s Scan ≡ Goes t → Facts trace p t
  scan_beside goes = scan_step (step_here trace p s beside t Scan goes)

  reap_step : {number : ℕ} {u : State} → rule.IsStep trace s (Reap number) u → Facts trace p u
  reap_step (rule.reaps number token is) =
      let found = acked_open number s.detector token is in
      record { counts = members_keep s.actors s.notes token trace all people beside.counts (token_sealed number token found.0 found.1); program = beside.program; prints = beside.prints; objects = beside.objects; weight = beside.weight; mode = beside.mode }

  pub reap_beside : (number : ℕ) → next s (Reap number) ≡ Goes t → Facts trace p t
  reap_beside number goes = reap_step (step_here trace p s beside t (Reap number) goes)
