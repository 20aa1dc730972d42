use Rattle.row_blocks.proofs.Placed.{lies_there, may_put, others_lie}
use Rattle.row_blocks.proofs.placing.place_row.Goals as goal

pub put-requires : goal.put-requires
put-requires g c = c.requires.put _ c.take-block.ensures.lowest.free

pub returns-clause-placed : goal.returns-clause-placed
returns-clause-placed g c =
    lies_there _ _ _ c.args.n c.take-block.ensures.lowest.free c.take-block.ensures.set _ _ _ c.put.ensures.row c.put.ensures.known

pub returns-clause-others : goal.returns-clause-others
returns-clause-others g c =
    others_lie _ _ _ c.args.n c.take-block.ensures.lowest.free c.take-block.ensures.set _ _ _ c.put.ensures.row c.put.ensures.known

pub returns-clause-put : goal.returns-clause-put
returns-clause-put g c =
    may_put _ _ _ c.args.n c.take-block.ensures.lowest.free c.take-block.ensures.set _ _ c.put.ensures.places c.requires.put
