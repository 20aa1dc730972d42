-- An event leaves all but what it touches.
use Rattle.std.proofs.Common.{◌≡◌, ◌<◌, List}
use Rattle.behaviour_code.specs.declared.code.Program.{Program}
use Rattle.event_rule.specs.Runs.{Goes}
use Rattle.event_rule.specs.declared.event.Event.{Event}
use Rattle.event_rule.specs.declared.event.Event.TheVariants.{Take, Go, Collect, Leave, Block, Hear, Scan, Reap}
use Rattle.machine_rules.specs.Next.{next}
use Rattle.machine_rules.specs.Options.{Options}
use Rattle.machine_rules.specs.Run.{IsRun}
use Rattle.machine_rules.specs.State.{State}
use Rattle.machine_laws.proofs.WholeRuns.{run_has_facts}
use Rattle.orca_parts.specs.Parts.{state_of}
use Rattle.orca_parts.specs.Ready.{FitsEvent}
use Rattle.orca_parts.specs.Touched.{touched_of, touched_token}
use Rattle.orca_parts.specs.declared.parts.Parts.{Parts}
use Rattle.book_picture.specs.Leaving.{LeavesOthers}
use Rattle.book_picture.proofs.Acting.{block_leaves, collect_leaves, leave_leaves, take_leaves}
use Rattle.book_picture.proofs.Detecting.{hear_leaves, reap_leaves, scan_leaves}
use Rattle.book_picture.proofs.Going.{go_leaves}
use Rattle.book_picture.proofs.Noting.{AreApart}

module _ (options : Options) (program : Program) (m : Parts) where
  abbrev s : State
  s = state_of program options m

  event_leaves : (e : Event) (t : State) → AreApart m.detector.state.tokens → FitsEvent options program e m → next s e ≡ Goes t
      → LeavesOthers (touched_of e m) (touched_token e m) s t
  event_leaves (Take a) t apart fits goes = take_leaves options program m a t fits goes
  event_leaves (Go a) t apart fits goes = go_leaves options program m a t fits.0 goes
  event_leaves (Collect a) t apart fits goes = collect_leaves options program m a t fits goes
  event_leaves (Leave a) t apart fits goes = leave_leaves options program m a t fits goes
  event_leaves (Block a) t apart fits goes = block_leaves options program m a t fits goes
  event_leaves Hear t apart fits goes = hear_leaves options program m t apart fits goes
  event_leaves Scan t apart fits goes = scan_leaves options program m t fits goes
  event_leaves (Reap number) t apart fits goes = reap_leaves options program m t number fits goes

  -- in a run no two open tokens have a member in common
  pub run_leaves : 0 < options.weight → (book : List Event) → IsRun program options book s → (e : Event) (t : State)
      → FitsEvent options program e m → next s e ≡ Goes t → LeavesOthers (touched_of e m) (touched_token e m) s t
  run_leaves heavy book run e t fits goes =
      let facts = run_has_facts program options heavy book s run in
      event_leaves e t facts.2.detector.tokens.apart fits goes
