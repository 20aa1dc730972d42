use Rattle.std.proofs.Common.{length, sym, subst}
use Rattle.row_store.specs.Memory.{remembered}
use Rattle.foreign_table.specs.Entry.{FollowFrom}
use Rattle.foreign_table.specs.Table.{AreRecalled, DoRise, kept_in}
use Rattle.foreign_table.proofs.table.ForeignTable.reserve.Goals as goal

pub invariant_of-self : goal.invariant_of-self
invariant_of-self c =
    let s = c.self.inside in
    let vs = s.values.items in
    subst (λ es. DoRise es × FollowFrom 0 es (length vs) × AreRecalled (remembered s.memory) (kept_in vs es)) (sym c.reserve.ensures.items) c.self.invariant

pub invariant_of-self-2 : goal.invariant_of-self-2
invariant_of-self-2 c =
    let s = c.self.inside in
    let vs = s.values.items in
    subst (λ es. DoRise es × FollowFrom 0 es (length vs) × AreRecalled (remembered s.memory) (kept_in vs es)) (sym c.reserve.ensures.items) c.self.invariant
