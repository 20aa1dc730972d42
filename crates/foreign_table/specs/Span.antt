-- The places of one owner's things.
use Rattle.std.specs.Prelude.{◌≡◌, ℕ, ◌<◌, ◌≤◌, List, length, slice_index_or}
use Rattle.orca_names.specs.Names.{owner_of}
use Rattle.orca_names.specs.declared.names.Thing.{Thing}

-- from one place on and before another stand the owner's things, before them those of owners below,
-- behind them those of owners above
pub record IsSpan (owner : ℕ) (things : List Thing) (first end : ℕ) : Type 0 where
  pub first_within : first ≤ end
  pub end_within : end ≤ length things
  pub below : (k : ℕ) (d : Thing) → k < first → owner_of (slice_index_or things k d) < owner
  pub own : (k : ℕ) (d : Thing) → first ≤ k → k < end
      → owner_of (slice_index_or things k d) ≡ owner
  pub above : (k : ℕ) (d : Thing) → end ≤ k → k < length things
      → owner < owner_of (slice_index_or things k d)
