use Rattle.row_store.specs.Told.{thing_block, thing_row}
use Rattle.reach_walk.proofs.by_place.push_entry.Goals as goal

pub push_lent-requires-clause-lent : goal.push_lent-requires-clause-lent
push_lent-requires-clause-lent g c =
    let rows = c.args.rows.now in
    let x = c.entry_at-thing.result.0 in
    (thing_row (g.R.BlockRows.rows rows) x, thing_block (g.R.BlockRows.blocks rows) x, c.entry_at-thing.ensures.row c.requires)
