use Rattle.std.proofs.Common.{sym, subst}
use Rattle.actor_table.specs.Index.{IsIndex}
use Rattle.actor_table.specs.Slots.{gone}
use Rattle.actor_table.proofs.Indexing.{index_grown}
use Rattle.actor_table.proofs.bits.reserve_bit.Goals as goal

pub returns-in_ok-grow-clause-index : goal.returns-in_ok-grow-clause-index
returns-in_ok-grow-clause-index c = λ has index.
    subst (λ on. IsIndex has gone on c.args.slots.now) (sym c.in_ok-grow.ensures.ok) (index_grown has gone c.args.ready.now c.args.slots.now index 64)
