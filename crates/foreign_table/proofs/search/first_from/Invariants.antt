use Rattle.std.proofs.Common.{◌≡◌, ◌≢◌, ◌-◌, ◌<◌, ◌≤◌, length, get_or}
use Rattle.std.specs.declared.cmp.Ordering.TheVariants.{Less}
use Rattle.orca_names.specs.Names.{thing_cmp}
use Rattle.foreign_table.specs.declared.search.Entry.{Entry}
use Rattle.foreign_table.proofs.search.first_from.Given as goal

abbrev pub invariant-loop-low : goal.invariant-loop-low
invariant-loop-low l = record {
  order : l.low ≤ l.high;
  within : l.high ≤ length l.held;
  below : 0 < l.low → (d : Entry) → thing_cmp (get_or l.held (l.low - 1) d).thing l.thing ≡ Less;
  not_below : l.high < length l.held → (d : Entry) → thing_cmp (get_or l.held l.high d).thing l.thing ≢ Less;
}

abbrev pub decreases-loop-low : goal.decreases-loop-low
decreases-loop-low l = l.high - l.low
