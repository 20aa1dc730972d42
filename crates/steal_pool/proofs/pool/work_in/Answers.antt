use Rattle.std.proofs.Common.{rules}
use Rattle.steal_pool.proofs.Places.{map_of_places}
use Rattle.steal_pool.proofs.pool.work_in.Goals as goal

pub returns-clause-halls : goal.returns-clause-halls
returns-clause-halls g c = map_of_places g.B.Board.hall c.args.boards.now c.for_each_mut.new.s (search rules) (search rules)
