use Rattle.std.proofs.Common.{rules, subst, set, sym}
use Rattle.actor_table.proofs.Lying.{place_lies_in}
use Rattle.actor_table.proofs.Changing.{acting_follows}
use Rattle.actor_table.proofs.table.ActorTable.push_letter.Goals as goal
use Rattle.letter_kinds.specs.Telling.{all_brought, brought_in}
use Rattle.actor_table.proofs.Telling.{place_tells_in}
use Rattle.actor_table.specs.Slots.{Table}
use Rattle.actor_table.specs.Telling.{PlaceLies, TableLies, TableTells}
use Rattle.letter_kinds.specs.Telling.{TellsOnly}

pub invariant_of-self : goal.invariant_of-self
invariant_of-self c =
    let s = c.self.inside in
    acting_follows s.slots.items s.acting s.settling c.to.inside.0 c.index_mut-slot.result.now c.push_letter.new.slot c.self.invariant (search rules) c.index_mut-slot.ensures.value
    c.push_letter.ensures.place c.push_letter.ensures.brings c.put.new.self c.can_act.result c.can_act.ensures c.put.ensures

pub returns-clause-told : goal.returns-clause-told
returns-clause-told c =
    let slots = c.self.inside.slots.items in
    let i = c.to.inside.0 in
    subst (λ (t : Table). TellsOnly (TableTells t.slots) (all_brought (brought_in c.args.letter)) (TableTells (set slots i c.push_letter.new.slot))) c.self.view_is
    (place_tells_in slots i c.push_letter.new.slot c.index_mut-slot.result.now (all_brought (brought_in c.args.letter)) (search rules) c.index_mut-slot.ensures.value c.push_letter.ensures.told)

pub returns-clause-lie : goal.returns-clause-lie
returns-clause-lie c =
    let slots = c.self.inside.slots.items in
    let i = c.to.inside.0 in
    subst (λ (t : Table). TableLies t.slots → TableLies (set slots i c.push_letter.new.slot)) c.self.view_is
    (place_lies_in slots i c.push_letter.new.slot c.index_mut-slot.result.now (search rules) c.index_mut-slot.ensures.value (subst PlaceLies (sym c.push_letter.ensures.place)))
