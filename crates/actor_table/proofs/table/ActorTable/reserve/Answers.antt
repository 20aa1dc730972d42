use Rattle.std.proofs.Common.{rules, [], subst, set}
use Rattle.actor_table.proofs.Lying.{place_lies_in}
use Rattle.actor_table.proofs.Changing.{index_stays}
use Rattle.actor_table.proofs.table.ActorTable.reserve.Goals as goal
use Rattle.actor_table.proofs.Telling.{place_tells_in}
use Rattle.actor_table.specs.Slots.{Table}
use Rattle.actor_table.specs.Telling.{TableLies, TableTells}
use Rattle.letter_kinds.specs.Telling.{TellsOnly}

pub invariant_of-self : goal.invariant_of-self
invariant_of-self g c =
    let s = c.self.inside in
    let does = c.reserve.ensures in
    index_stays s.slots.items s.acting s.settling c.a.inside.0 c.index_mut.result.now c.reserve.new.slot c.self.invariant (search rules) c.index_mut.ensures.value
    does.seat does.kept.away does.kept.owner does.brings

pub returns-clause-told : goal.returns-clause-told
returns-clause-told g c =
    let slots = c.self.inside.slots.items in
    let i = c.a.inside.0 in
    subst (λ (t : Table). TellsOnly (TableTells t.slots) [] (TableTells (set slots i c.reserve.new.slot))) c.self.view_is
    (place_tells_in slots i c.reserve.new.slot c.index_mut.result.now [] (search rules) c.index_mut.ensures.value c.reserve.ensures.told)

pub returns-clause-lie : goal.returns-clause-lie
returns-clause-lie g c =
    let slots = c.self.inside.slots.items in
    let i = c.a.inside.0 in
    subst (λ (t : Table). TableLies t.slots → TableLies (set slots i c.reserve.new.slot)) c.self.view_is
    (place_lies_in slots i c.reserve.new.slot c.index_mut.result.now (search rules) c.index_mut.ensures.value c.reserve.ensures.lie)
