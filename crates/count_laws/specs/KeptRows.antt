-- Which rows that letters brought stay at a collection, with root-only tracing.
use Rattle.std.specs.Prelude.{ℕ, ◌≡◌, ◌↔◌, Some}
use Rattle.std.specs.FinMap as m
use Rattle.orca_names.specs.declared.names.Thing.{Thing}
use Rattle.event_rule.specs.declared.event.Event.TheVariants.{Collect}
use Rattle.reach_walk.specs.Reach.{thing_row}
use Rattle.letter_kinds.specs.Holdings.{Row}
use Rattle.machine_rules.specs.Actors.{cell_at}
use Rattle.machine_rules.specs.Cell.{Cell, row_by_roots}
use Rattle.event_rule.specs.Runs.{Goes}
use Rattle.machine_rules.specs.Next.{next}
use Rattle.orca_names.specs.declared.trace.Trace.TheVariants.{Roots}
use Rattle.machine_rules.specs.State.{State}
use Rattle.plain_rules.specs.Machine.{PlainState}
use Rattle.count_laws.specs.Clean.{IsInOwnReach}
use Rattle.count_laws.specs.Facts.{Facts}
use Rattle.count_laws.specs.Known.{ReachesThrough}

-- something that is marked of the first cell leads to it, through own rows and known rows of the
-- second
abbrev pub MarkedReach : ℕ → Cell → Cell → Thing → Type 0
MarkedReach a marked having x =
    ReachesThrough (thing_row (row_by_roots a having)) (IsInOwnReach a marked) x

-- of the actor's known rows those stay that marked things reach: through the rows that it had
-- before, or, which is the same, through those that it has afterwards
pub record KeepsWhatMarkedReach (s t : State) (a : ℕ) : Type 0 where
  pub before : Cell
  pub had : cell_at s.actors a ≡ Some before
  pub after : Cell
  pub has : cell_at t.actors a ≡ Some after
  pub stays : (x : Thing) (row : Row)
      → m.get after.known x ≡ Some row ↔ (m.get before.known x ≡ Some row)
      × MarkedReach a before before x
  pub same : (x : Thing) → MarkedReach a before before x ↔ MarkedReach a before after x

-- so it is at each collection
abbrev pub KnownRowsStayWhereMarkedReach : Type 0
KnownRowsStayWhereMarkedReach =
    (p : PlainState) (s t : State) (a : ℕ) → Facts Roots p s → next s (Collect a) ≡ Goes t
    → KeepsWhatMarkedReach s t a
