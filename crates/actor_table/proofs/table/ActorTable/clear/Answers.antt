use Rattle.std.proofs.Common.{[], refl, rules, set, subst, sym}
use Rattle.letter_kinds.specs.Telling.{TellsOnly}
use Rattle.actor_table.specs.Slots.{IsOwnedBy, Table}
use Rattle.actor_table.specs.Telling.{PlaceLies, TableLies, TableTells}
use Rattle.actor_table.proofs.Bringing.{brings_cleared}
use Rattle.actor_table.proofs.Changing.{bits_follow}
use Rattle.actor_table.proofs.Lying.{place_lies_in}
use Rattle.actor_table.proofs.Telling.{place_tells_in, slot_cleared}
use Rattle.actor_table.proofs.table.ActorTable.clear.Goals as goal

pub invariant_of-self : goal.invariant_of-self
invariant_of-self c =
    let s = c.self.inside in
    let cleared = c.clear.ensures in
    let x = c.clear.new.slot in
    bits_follow s.slots.items s.acting s.settling c.a.inside.0 c.index_mut-slot.result.now x c.self.invariant (search rules) c.index_mut-slot.ensures.value
    (λ _. subst (IsOwnedBy c.a.inside.0) (sym cleared.place) refl) (λ _. brings_cleared x cleared.letters.0 cleared.letters.1)
    c.put_bits.new.acting c.put_bits.new.settling c.put_bits.ensures.acting c.put_bits.ensures.settling

pub returns-clause-told : goal.returns-clause-told
returns-clause-told c =
    let slots = c.self.inside.slots.items in
    let i = c.a.inside.0 in
    subst (λ (t : Table). TellsOnly (TableTells t.slots) [] (TableTells (set slots i c.clear.new.slot))) c.self.view_is
    (place_tells_in slots i c.clear.new.slot c.index_mut-slot.result.now [] (search rules) c.index_mut-slot.ensures.value (slot_cleared c.clear.new.slot c.index_mut-slot.result.now c.clear.ensures.place c.clear.ensures.letters.1))

pub returns-clause-lie : goal.returns-clause-lie
returns-clause-lie c =
    let slots = c.self.inside.slots.items in
    let i = c.a.inside.0 in
    subst (λ (t : Table). TableLies t.slots → TableLies (set slots i c.clear.new.slot)) c.self.view_is
    (place_lies_in slots i c.clear.new.slot c.index_mut-slot.result.now (search rules) c.index_mut-slot.ensures.value (λ _. subst PlaceLies (sym c.clear.ensures.place) tt))
