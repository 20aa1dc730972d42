use Rattle.std.proofs.Common.{◌≡◌, ℕ, ◌≤◌, drop}
use Rattle.letter_kinds.specs.Counting.{mint_all}
use Rattle.object_heap.specs.Heap.{Heap}
use Rattle.foreign_table.specs.Table.{count_unheld}
use Rattle.known_rows.specs.Holdings.{holdings_of}
use Rattle.trace_send.specs.Blocks.{blocks_minted}
use Rattle.trace_send.specs.Can.{CanMint}
use Rattle.trace_send.proofs.amounts.mint_counts.Given as goal

abbrev pub invariant-loop-amount : goal.invariant-loop-amount
invariant-loop-amount l = record {
  counts : (count : ℕ) (heap : Heap) → mint_all (drop l.amount-index l.things) (holdings_of count heap l.foreign) ≡ mint_all l.things (holdings_of count heap l.fn.foreign);
  can : (count : ℕ) (heap : Heap) → CanMint (drop l.amount-index l.things) (holdings_of count heap l.foreign);
  blocks : blocks_minted (drop l.amount-index l.things) l.foreign.blocks ≡ blocks_minted l.things l.fn.foreign.blocks;
  room : count_unheld (drop l.amount-index l.things) l.foreign.entries ≤ l.foreign.spare;
}
