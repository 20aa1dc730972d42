use Rattle.actor_table.specs.Slots.{can_act, can_settle}
use Rattle.actor_table.proofs.bits.reserve_bits.Goals as goal

pub returns-in_err-reserve_bit-clause-indexed : goal.returns-in_err-reserve_bit-clause-indexed
returns-in_err-reserve_bit-clause-indexed c =
    let all = c.requires.indexed in
    record { owned = all.owned; brings = all.brings; few = all.few; acts = c.reserve_bit.ensures.index can_act all.acts; settles = all.settles }

pub returns-clause-indexed : goal.returns-clause-indexed
returns-clause-indexed c =
    let all = c.requires.indexed in
    record { owned = all.owned; brings = all.brings; few = all.few; acts = c.reserve_bit.ensures.index can_act all.acts; settles = c.reserve_bit-2.ensures.index can_settle all.settles }
