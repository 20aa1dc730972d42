use Rattle.std.proofs.Common.{ℕ, subst}
use Rattle.actor_table.specs.Slots.{IsOwnedBy, Table, slot_at}
use Rattle.actor_table.proofs.Bringing.{AllBring}
use Rattle.actor_table.proofs.table.ActorTable.tells_its_own.Goals as goal

pub returns : goal.returns
returns c =
    let all = subst (λ (t : Table). AllBring t.slots) c.self.view_is c.self.invariant.brings in
    record {
      owned = subst (λ (t : Table). (a : ℕ) → IsOwnedBy a (slot_at t.slots a).place) c.self.view_is c.self.invariant.owned;
      brings = λ a. (all a).brought;
      none = λ a. (all a).none;
    }
