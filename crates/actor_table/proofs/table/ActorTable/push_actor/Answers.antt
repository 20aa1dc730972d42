use Rattle.std.proofs.Common.{◌≡◌, length, set, ap, sym, subst, refl, ◌∙◌, arith, rules}
use Rattle.actor_table.specs.declared.slot.Slot.{Slot}
use Rattle.actor_table.specs.declared.slot.Place.TheVariants.{Home}
use Rattle.actor_table.specs.Slots.{AreIndexed, Table, can_act, can_settle}
use Rattle.actor_table.specs.Telling.{TableLies}
use Rattle.actor_table.proofs.Bringing.{brings_home}
use Rattle.actor_table.proofs.Lying.{lies_added}
use Rattle.actor_table.proofs.Changing.{indexed_push}
use Rattle.actor_table.proofs.table.ActorTable.push_actor.Goals as goal

pub invariant_of-self : goal.invariant_of-self
invariant_of-self c =
    let slots = c.self.inside.slots.items in
    let acting = c.self.inside.acting in
    let settling = c.self.inside.settling in
    let x : Slot = record { place = Home c.args.cell; mail = c.args.mail } in
    let seen : length slots ≡ length c.args.self.now.slots = ap (λ (t : Table). length t.slots) c.self.view_is in
    let made : c.len-made.result ≡ length slots = search rules in
    let spare = ap (λ (t : Table). t.spare) c.self.view_is in
    let len : c.self.inside.slots.len ≡ length slots = search rules in
    subst (λ xs. AreIndexed xs c.put_bits.new.acting c.put_bits.new.settling) (sym c.push_reserved.ensures.items)
    (indexed_push slots acting settling c.put_bits.new.acting c.put_bits.new.settling x c.self.invariant
    (omega (arith, seen, c.requires.few)) (omega (arith, spare, c.requires.room, len)) (omega (arith, spare, c.requires.room, len)) (c.requires.owner ∙ sym seen) (brings_home x c.args.cell refl c.requires.brings)
    (c.put_bits.ensures.acting ∙ ap (λ n. set acting n (can_act x)) made) (c.put_bits.ensures.settling ∙ ap (λ n. set settling n (can_settle x)) made))

pub returns-clause-lie : goal.returns-clause-lie
returns-clause-lie c = λ its all.
    let slots = c.self.inside.slots.items in
    let x : Slot = record { place = Home c.args.cell; mail = c.args.mail } in
    subst TableLies (sym c.push_reserved.ensures.items)
    (lies_added slots x its (subst (λ (t : Table). TableLies t.slots) (sym c.self.view_is) all))
