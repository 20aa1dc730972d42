use Rattle.std.proofs.Common.{◌≡◌, drop}
use Rattle.letter_kinds.specs.Counting.{raise_all}
use Rattle.foreign_table.specs.Table.{Table}
use Rattle.known_rows.specs.Holdings.{holdings_of}
use Rattle.trace_send.specs.Can.{CanRaise}
use Rattle.trace_send.proofs.amounts.raise_counts.Given as goal

abbrev pub invariant-loop-amount : goal.invariant-loop-amount
invariant-loop-amount l = record {
  counts : (foreign : Table) → raise_all l.me (drop l.amount-index l.things) (holdings_of l.own l.heap foreign)
      ≡ raise_all l.me l.things (holdings_of l.fn.own l.fn.heap foreign);
  can : (foreign : Table) → CanRaise l.me (drop l.amount-index l.things) (holdings_of l.own l.heap foreign);
  owner : l.heap.owner ≡ l.fn.heap.owner;
  blocks : l.heap.blocks ≡ l.fn.heap.blocks;
}
