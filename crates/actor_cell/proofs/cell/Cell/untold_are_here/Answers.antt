use Rattle.std.proofs.Common.{inl, inr}
use Rattle.row_store.specs.Memory.{remembered}
use Rattle.actor_cell.proofs.Here.{own_untold}
use Rattle.actor_cell.proofs.cell.Cell.untold_are_here.Goals as goal

pub returns-clause-own : goal.returns-clause-own
returns-clause-own c =
    own_untold c.args.self.now.heap (remembered c.memory-own.result.now) c.memory-own.ensures (λ n row block told. c.requires n row block (inl told))

pub returns-clause-held : goal.returns-clause-held
returns-clause-held c = c.untold_are_here.ensures (λ n row block told. c.requires n row block (inr (inl told)))

pub returns-clause-brought : goal.returns-clause-brought
returns-clause-brought c = c.untold_are_here-2.ensures (λ n row block told. c.requires n row block (inr (inr told)))
