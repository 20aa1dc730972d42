use Rattle.std.proofs.Common.{◌≡◌, ◌++◌, take, drop}
use Rattle.std.specs.Prelude.{map, vec_len}
use Rattle.row_store.specs.Memory.{remembered}
use Rattle.row_store.specs.Told.{lie_as}
use Rattle.letter_kinds.specs.Load.{HaveGiven, lies_from}
use Rattle.letter_kinds.proofs.load.lie_all.Given as goal

abbrev pub invariant-loop-i : goal.invariant-loop-i
invariant-loop-i l = record {
  load : take l.i (lie_as (remembered l.memory) l.items.items)
      ++ map (lies_from l.owner l.first l.blocks) (drop l.i (lie_as (remembered l.memory) l.items.items))
      ≡ map (lies_from l.owner l.first l.blocks) (lie_as (remembered l.fn.memory) l.fn.items.items);
  given : HaveGiven l.owner l.first l.rows (lie_as (remembered l.memory) l.items.items);
  long : vec_len l.items ≡ vec_len l.fn.items;
}
