use Rattle.std.proofs.Common.{◌≡◌, ◌≤◌, length, map, vec_capacity, vec_len}
use Rattle.letter_kinds.specs.Letters.{as_sent}
use Rattle.actor_cell.specs.Outs.{decs_to}
use Rattle.actor_cell.proofs.letters.decs_of.Given as goal

abbrev pub invariant-loop-owner : goal.invariant-loop-owner
invariant-loop-owner l = record {
  letters : map as_sent l.room.items ≡ decs_to l.yielded;
  count : vec_len l.room ≡ length l.yielded;
  room : length l.fn.groups.items ≤ vec_capacity l.room;
}
