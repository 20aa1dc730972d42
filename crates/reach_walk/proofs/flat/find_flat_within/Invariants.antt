use Rattle.std.proofs.Common.{◌+◌, ◌*◌, ◌≤◌, All, take, []}
use Rattle.row_store.specs.Words.{SameWords}
use Rattle.reach_walk.specs.Flat.{LeadsNowhere, Puts}
use Rattle.reach_walk.specs.Marks.{with_owners}
use Rattle.reach_walk.specs.Reach.{named_by}
use Rattle.reach_walk.proofs.flat.find_flat_within.Given as goal

abbrev pub invariant-loop-value : goal.invariant-loop-value
invariant-loop-value g l =
    let named = named_by (take l.value-index l.value-items) in
    record {
      puts : Puts (with_owners named) [] l.things;
      flat : All (LeadsNowhere (g.R.BlockRows.rows l.rows)) named;
      steps : l.steps ≤ l.fn.steps + 10 * l.value-index;
      words : SameWords g.W.RowWords.known g.W.RowWords.places g.W.RowWords.beside l.fn.words l.words;
    }
