use Rattle.std.proofs.Common.{◌≡◌, ◌+◌, ◌≤◌, length, drop}
use Rattle.letter_kinds.specs.Load.{as_load}
use Rattle.machine_rules.specs.Take.{learn}
use Rattle.trace_send.specs.Room.{values_of}
use Rattle.letter_kinds.specs.Telling.{TellsOnly}
use Rattle.actor_cell.specs.Tells.{BroughtTells}
use Rattle.actor_cell.proofs.learning.learn_all.Given as goal

abbrev pub invariant-loop-brought : goal.invariant-loop-brought
invariant-loop-brought l = record {
  rows : learn l.me (as_load (drop l.brought-index l.rows)) l.known.rows ≡ learn l.me (as_load l.rows) l.fn.known.rows;
  told : TellsOnly (BroughtTells l.fn.known) l.rows (BroughtTells l.known);
  room : length l.rows ≤ l.known.spare + l.brought-index;
  values : values_of (drop l.brought-index l.rows) ≤ l.known.spare_values;
}
