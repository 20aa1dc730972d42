use Rattle.std.proofs.Common.{◌≡◌, ◌+◌, ◌-◌, ◌≤◌, ◌++◌, None, replicate, vec_capacity, vec_len}
use Rattle.cycle_detect.proofs.reports.lengthen.Given as goal

abbrev pub invariant-loop : goal.invariant-loop
invariant-loop l = record {
  slots : l.slots.items ≡ l.fn.slots.items ++ replicate l.counter None;
  room : vec_len l.slots + (l.more - l.counter) ≤ vec_capacity l.slots;
}
