use Rattle.std.proofs.Common.{◌≡◌, ℕ, ◌-◌, ◌<◌, ◌≤◌, length, get_or}
use Rattle.orca_names.specs.Names.{owner_of}
use Rattle.foreign_table.specs.declared.search.Entry.{Entry}
use Rattle.foreign_table.proofs.span.end_from.Given as goal

abbrev pub invariant-loop-end : goal.invariant-loop-end
invariant-loop-end l = record {
  from : l.first ≤ l.end;
  within : l.end ≤ length l.held;
  own : (k : ℕ) (d : Entry) → l.first ≤ k → k < l.end → owner_of (get_or l.held k d).thing ≡ l.owner;
}

abbrev pub decreases-loop-end : goal.decreases-loop-end
decreases-loop-end l = length l.held - l.end
