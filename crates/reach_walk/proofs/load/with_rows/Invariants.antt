use Rattle.std.proofs.Common.{◌≡◌, ◌≤◌, length, take, map}
use Rattle.std.specs.Prelude.{vec_capacity}
use Rattle.row_store.specs.Told.{lie_as, thing_lies}
use Rattle.reach_walk.proofs.load.with_rows.Given as goal

abbrev pub invariant-loop-thing : goal.invariant-loop-thing
invariant-loop-thing g l =
    let its = g.R.RowReader.rows l.fn.rows in
    let blocks = g.R.TellsRows.blocks l.fn.rows in
    record {
      load : lie_as its l.load.items ≡ map (λ x. (x, thing_lies its blocks x)) (take l.thing-index l.things);
      room : length l.things ≤ vec_capacity l.load;
      rows : g.R.RowReader.rows l.rows ≡ its;
      all : g.R.RowReader.all l.rows ≡ g.R.RowReader.all l.fn.rows;
      beside : g.R.RowReader.beside l.rows ≡ g.R.RowReader.beside l.fn.rows;
    }
