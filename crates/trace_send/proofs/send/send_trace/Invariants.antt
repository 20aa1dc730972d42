use Rattle.std.proofs.Common.{◌≡◌, drop}
use Rattle.letter_kinds.specs.Load.{as_load}
use Rattle.letter_kinds.specs.Counting.{send}
use Rattle.known_rows.specs.Holdings.{holdings_of}
use Rattle.trace_send.specs.Can.{CanSend}
use Rattle.trace_send.proofs.send.send_trace.Given as goal

abbrev pub invariant-loop-loaded : goal.invariant-loop-loaded
invariant-loop-loaded l = record {
  counts : send l.me (as_load (drop l.loaded-index l.load)) (holdings_of l.own l.heap l.foreign) ≡ send l.me (as_load l.load) (holdings_of l.fn.own l.fn.heap l.fn.foreign);
  can : CanSend l.me (as_load (drop l.loaded-index l.load)) (holdings_of l.own l.heap l.foreign);
  owner : l.heap.owner ≡ l.fn.heap.owner;
  spare : l.heap.spare ≡ l.fn.heap.spare;
  own_blocks : l.heap.blocks ≡ l.fn.heap.blocks;
  held_blocks : l.foreign.blocks ≡ l.fn.foreign.blocks;
  room : l.foreign.spare ≡ l.fn.foreign.spare;
}
