use Rattle.std.proofs.Common.{◌≡◌, ◌+◌, ◌≤◌, drop}
use Rattle.letter_kinds.specs.Load.{as_load}
use Rattle.letter_kinds.specs.Counting.{receive}
use Rattle.known_rows.specs.Holdings.{holdings_of}
use Rattle.trace_send.specs.Blocks.{blocks_received}
use Rattle.trace_send.specs.Can.{CanReceive}
use Rattle.trace_send.specs.Room.{values_of}
use Rattle.trace_send.proofs.receive.receive_trace.Given as goal

abbrev pub invariant-loop-loaded : goal.invariant-loop-loaded
invariant-loop-loaded l = record {
  counts : receive l.me (as_load (drop l.loaded-index l.load)) (holdings_of l.own l.heap l.foreign) ≡ receive l.me (as_load l.load) (holdings_of l.fn.own l.fn.heap l.fn.foreign);
  can : CanReceive l.me (as_load (drop l.loaded-index l.load)) (holdings_of l.own l.heap l.foreign);
  owner : l.heap.owner ≡ l.fn.heap.owner;
  spare : l.heap.spare ≡ l.fn.heap.spare;
  blocks : l.heap.blocks ≡ l.fn.heap.blocks;
  held : blocks_received l.me (drop l.loaded-index l.load) l.foreign.blocks ≡ blocks_received l.me l.load l.fn.foreign.blocks;
  room : l.fn.foreign.spare ≤ l.foreign.spare + l.loaded-index;
  values : l.fn.foreign.spare_values + values_of (drop l.loaded-index l.load) ≤ l.foreign.spare_values + values_of l.load;
}
