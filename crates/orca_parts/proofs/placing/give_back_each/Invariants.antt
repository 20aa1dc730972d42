use Rattle.std.proofs.Common.{◌≡◌, ℕ, true, drop}
use Rattle.std.specs.List.Sorted.{IsStrictlySortedBy}
use Rattle.std.specs.Ordering.{nat_cmp}
use Rattle.letter_kinds.specs.Detector.{has}
use Rattle.row_blocks.specs.Blocks.{without}
use Rattle.actor_table.specs.Changes.{HasCell}
use Rattle.actor_table.specs.Slots.{slot_at}
use Rattle.orca_parts.specs.Blocks.{OwnFit}
use Rattle.orca_parts.proofs.placing.give_back_each.Given as goal

abbrev pub invariant-loop-member : goal.invariant-loop-member
invariant-loop-member l =
    let left = drop l.member-index l.members in
    record {
      rising : IsStrictlySortedBy nat_cmp left;
      blocks : without (λ n. has left n.owner) l.blocks ≡ without (λ n. has l.members n.owner) l.fn.blocks;
      home : (a : ℕ) → has left a ≡ true → HasCell (slot_at l.table.slots a) (λ c. c.heap.owner ≡ a → OwnFit l.blocks c);
    }
