use Rattle.std.proofs.Common.{◌+◌, ◌*◌, ◌≤◌, All, take}
use Rattle.row_store.specs.Words.{SameWords}
use Rattle.reach_walk.specs.Flat.{LeadsNowhere}
use Rattle.reach_walk.specs.Reach.{named_by}
use Rattle.reach_walk.proofs.flat.lead_no_further_within.Given as goal

abbrev pub invariant-loop-value : goal.invariant-loop-value
invariant-loop-value g l = record {
  flat : All (LeadsNowhere (g.R.BlockRows.rows l.rows)) (named_by (take l.value-index l.values));
  steps : l.steps ≤ l.fn.steps + 10 * l.value-index;
  words : SameWords g.W.RowWords.known g.W.RowWords.places g.W.RowWords.beside l.fn.words l.words;
}
