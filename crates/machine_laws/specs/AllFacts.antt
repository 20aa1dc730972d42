-- All that holds in each state of a run, beside the machine that frees nothing.
use Rattle.std.specs.Prelude.{◌≡◌, length}
use Rattle.orca_names.specs.declared.names.Thing.TheVariants.{Actor}
use Rattle.orca_names.specs.declared.trace.Trace.{Trace}
use Rattle.orca_names.specs.declared.trace.Trace.TheVariants.{Deep, Roots}
use Rattle.machine_rules.specs.Actors.{cell_at, mail_at, Every}
use Rattle.machine_rules.specs.Balance.{load_sum}
use Rattle.count_laws.specs.Clean.{CleanAreSwept, IsCleanByRootsAt, NoneHoldsItsOwn}
use Rattle.count_laws.specs.Facts.{Facts}
use Rattle.plain_rules.specs.Machine.{PlainState}
use Rattle.machine_rules.specs.State.{State}
use Rattle.detector_laws.specs.Facts.{DetectorFacts}

pub record AllFacts (trace : Trace) (p : PlainState) (s : State) : Type 0 where
  -- agreement, balance, prefixes, held closure, and what carries them
  pub beside : Facts trace p s
  -- no actor holds a count on a thing of its own
  pub own : NoneHoldsItsOwn s.actors
  -- with deep tracing, clean cells are swept
  pub clean : trace ≡ Deep → CleanAreSwept s.actors
  -- with root-only tracing, they have just what is marked
  pub marked : trace ≡ Roots → Every IsCleanByRootsAt s.actors
  -- reports, tokens and news
  pub detector : DetectorFacts (length s.actors) s.detector (cell_at s.actors) (mail_at s.actors)
      (λ x. load_sum (Actor x) s.actors) s.notes
