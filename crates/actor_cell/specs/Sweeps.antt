-- What a collection is found to do, and what it leaves.
use Rattle.std.specs.Prelude.{ℕ, ◌≡◌, false, List, []}
use Rattle.orca_names.specs.declared.trace.Trace.{Trace}
use Rattle.orca_names.specs.declared.trace.Trace.TheVariants.{Deep, Roots}
use Rattle.known_rows.specs.Places.{HoldsOthersOnly}
use Rattle.local_sweep.specs.Plan.{back_of, plan_of}
use Rattle.letter_kinds.specs.Counting.{Amount, sweep}
use Rattle.row_table.specs.Table.{as_held}
use Rattle.machine_rules.specs.Cell as rules
use Rattle.machine_rules.specs.Collect.{is_in_use, is_marked, without_unused}
use Rattle.actor_cell.specs.declared.cell.Cell.{Cell}
use Rattle.actor_cell.specs.declared.sweeping.Sweep.{Sweep}
use Rattle.actor_cell.specs.Cells.{as_cell}

-- what it holds is others', and so is each object whose row a letter brought
abbrev pub KnowsOthersOnly : Cell → Type 0
KnowsOthersOnly c =
    HoldsOthersOnly c.heap c.foreign × HoldsOthersOnly c.heap (as_held c.known)

-- the objects, in groups of their owners, whose rows letters brought and are in use no more
abbrev pub unused_of : Trace → Cell → List (ℕ × List Amount)
unused_of Deep c = []
unused_of Roots c = back_of (is_in_use c.heap.owner (as_cell c)) c.heap (as_held c.known)

-- what it frees, gives back and forgets
abbrev pub sweep_of : Trace → Cell → Sweep
sweep_of trace c = record {
  plan = plan_of (is_marked trace c.heap.owner (as_cell c)) c.heap c.foreign;
  unused = unused_of trace c;
}

-- the sweep is that of the cell, by some tracing
abbrev pub IsSweep : Cell → Sweep → Type 0
IsSweep c found = (trace : Trace) × (found ≡ sweep_of trace c)

-- the cell without what is not marked and without unused rows, clean
abbrev pub swept : Trace → ℕ → rules.Cell → rules.Cell
swept trace a c = record (without_unused trace a c) {
  holdings = sweep (is_marked trace a c) a c.holdings;
  dirty = false;
}
