use Rattle.std.proofs.Common.{◌≡◌, ◌++◌, drop}
use Rattle.std.specs.List.Sorted.{IsStrictlySortedBy}
use Rattle.std.specs.Ordering.{nat_cmp}
use Rattle.orca_parts.proofs.Reaping.{returned}
use Rattle.orca_parts.proofs.reaps.letters_outside.Given as goal

abbrev pub invariant-loop-member : goal.invariant-loop-member
invariant-loop-member l = record {
  rising : IsStrictlySortedBy nat_cmp (drop l.member-index l.members);
  letters : l.letters.items ++ returned l.members (drop l.member-index l.members) l.table.slots
      ≡ returned l.members l.members l.table.slots;
}
