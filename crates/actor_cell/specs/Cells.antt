-- The cell of an actor, as the rules have it.
use Rattle.std.specs.Prelude.{ℕ, ◌≡◌, None, option_map}
use Rattle.orca_names.specs.declared.names.Thing.TheVariants.{Actor}
use Rattle.letter_kinds.specs.Counting.{gain}
use Rattle.known_rows.specs.Holdings.{holdings_of}
use Rattle.plain_rules.specs.Machine.{with_name}
use Rattle.machine_rules.specs.Cell as rules
use Rattle.actor_cell.specs.declared.cell.Cell.{Cell}

abbrev pub as_cell : Cell → rules.Cell
as_cell c = record {
  kind = c.kind;
  fields = c.fields;
  frame = c.frame;
  holdings = holdings_of c.count c.heap c.foreign;
  dirty = c.dirty;
  reported = c.reported;
  known = c.known.rows;
}

-- the maker of an actor holds it with the weight, and its name stands in the register
abbrev pub settled : ℕ → ℕ → ℕ → rules.Cell → rules.Cell
settled weight register name c = record c {
  frame = option_map (λ f. with_name f register name) c.frame;
  holdings = gain weight (Actor name) None c.holdings;
}

-- to the rules it is this cell, and it is of this actor
abbrev pub IsCellOf : ℕ → rules.Cell → Cell → Type 0
IsCellOf a k c = (as_cell c ≡ k) × (c.heap.owner ≡ a)

-- the same, of the same actor
abbrev pub IsSame : Cell → Cell → Type 0
IsSame c d = IsCellOf d.heap.owner (as_cell d) c
