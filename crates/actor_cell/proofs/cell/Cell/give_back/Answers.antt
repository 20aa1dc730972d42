use Rattle.actor_cell.proofs.cell.Cell.give_back.Goals as goal

pub returns : goal.returns
returns c = c.gather_held.ensures c.args.self.now.count c.args.self.now.heap
