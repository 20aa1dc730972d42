use Rattle.std.proofs.Common.{◌≡◌, ◌+◌, ◌-◌, ◌≤◌, length}
use Rattle.std.specs.Prelude.{vec_capacity}
use Rattle.block_table.specs.Blocks.{count_free, fill, names_from}
use Rattle.row_blocks.specs.Blocks.{LiePlaced, MayPutFree, StillLie}
use Rattle.row_blocks.proofs.placing.place_rows.Given as goal

abbrev pub invariant-loop-row : goal.invariant-loop-row
invariant-loop-row g l = record {
  blocks : fill (names_from l.owner l.serial (length l.made - l.row-index)) l.blocks ≡ fill (names_from l.owner l.first (length l.made)) l.fn.blocks;
  free : length l.made ≤ count_free l.blocks + l.row-index;
  serial : l.serial ≡ l.first + l.row-index;
  count : length l.placed.items ≡ l.row-index;
  capacity : vec_capacity l.placed ≡ vec_capacity l.fn.placed;
  placed : LiePlaced l.owner l.first l.made l.placed.items l.blocks (g.W.RowWords.known l.words);
  still : StillLie l.fn.blocks (g.W.RowWords.known l.fn.words) l.blocks (g.W.RowWords.known l.words);
  put : MayPutFree l.blocks (g.W.RowWords.places l.words);
  places : g.W.RowWords.places l.words ≡ g.W.RowWords.places l.fn.words;
  beside : g.W.RowWords.beside l.words ≡ g.W.RowWords.beside l.fn.words;
}
