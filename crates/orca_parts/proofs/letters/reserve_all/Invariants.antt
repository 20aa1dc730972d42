use Rattle.std.proofs.Common.{◌≡◌, ◌≤◌, ◌+◌, ℕ, true, drop}
use Rattle.std.specs.Prelude.{is_some}
use Rattle.machine_rules.specs.Actors.{seat_at}
use Rattle.actor_table.specs.Changes.{OnlyTableRoom}
use Rattle.actor_table.specs.Slots.{actors_of, slot_at}
use Rattle.orca_parts.specs.Letters.{count_for, letters_to}
use Rattle.orca_parts.specs.Touched.{receivers}
use Rattle.orca_parts.proofs.letters.reserve_all.Given as goal

abbrev pub invariant-loop-group : goal.invariant-loop-group
invariant-loop-group l = record {
  same : OnlyTableRoom l.fn.table l.table;
  told : (b : ℕ) → letters_to b (receivers l.groups) ≡ count_for l.counts b + letters_to b (receivers (drop l.group-index l.groups));
  fits : (b : ℕ) → is_some (seat_at (actors_of l.table.slots) b) ≡ true → count_for l.counts b ≤ (slot_at l.table.slots b).mail.spare;
}
