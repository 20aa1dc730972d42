use Rattle.std.proofs.Common.{ap, rules, ◌∙◌, [], subst, set}
use Rattle.std.specs.Prelude.{unwrap_or}
use Rattle.actor_table.proofs.Bringing.{brings_same}
use Rattle.actor_table.proofs.Lying.{place_lies_in}
use Rattle.actor_table.proofs.Changing.{bits_follow}
use Rattle.actor_table.proofs.table.ActorTable.lift.Goals as goal
use Rattle.actor_table.proofs.Telling.{place_tells_in}
use Rattle.actor_table.specs.Slots.{Table}
use Rattle.actor_table.specs.Telling.{TableLies, TableTells}
use Rattle.letter_kinds.specs.Telling.{TellsOnly}
use Rattle.mail_rows.specs.Mail.{Mail}

pub invariant_of-self : goal.invariant_of-self
invariant_of-self c =
    let s = c.self.inside in
    let x = c.lift-lent.new.slot in
    let y = c.index_mut-slot.result.now in
    let does = c.lift-lent.ensures in
    bits_follow s.slots.items s.acting s.settling c.a.inside.0 y x c.self.invariant (search rules) c.index_mut-slot.ensures.value
    (λ its. ap (λ o. unwrap_or o c.a.inside.0) does.owner ∙ its)
    (brings_same x y (ap (λ (m : Mail). m.letters) does.mail) (ap (λ (m : Mail). m.brought) does.mail) does.owner)
    c.put_bits.new.acting c.put_bits.new.settling c.put_bits.ensures.acting c.put_bits.ensures.settling

pub returns-clause-told : goal.returns-clause-told
returns-clause-told c =
    let slots = c.self.inside.slots.items in
    let i = c.a.inside.0 in
    subst (λ (t : Table). TellsOnly (TableTells t.slots) [] (TableTells (set slots i c.lift-lent.new.slot))) c.self.view_is
    (place_tells_in slots i c.lift-lent.new.slot c.index_mut-slot.result.now [] (search rules) c.index_mut-slot.ensures.value c.lift-lent.ensures.told)

pub returns-clause-lie : goal.returns-clause-lie
returns-clause-lie c =
    let slots = c.self.inside.slots.items in
    let i = c.a.inside.0 in
    subst (λ (t : Table). TableLies t.slots → TableLies (set slots i c.lift-lent.new.slot)) c.self.view_is
    (place_lies_in slots i c.lift-lent.new.slot c.index_mut-slot.result.now (search rules) c.index_mut-slot.ensures.value c.lift-lent.ensures.lie)
