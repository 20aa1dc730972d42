use Rattle.std.proofs.Common.{◌≡◌, ◌≤◌, ap, rules, set, subst, sym, ◌∙◌}
use Rattle.std.specs.Prelude.{unwrap_or}
use Rattle.actor_table.specs.Changes.{CanChange, KeepsRoom}
use Rattle.actor_table.specs.declared.slot.Place.TheVariants.{Home}
use Rattle.actor_table.specs.declared.slot.Slot.{Slot}
use Rattle.actor_table.specs.Slots.{Table, away_of, is_away}
use Rattle.actor_table.specs.Telling.{TableLies, TableTells}
use Rattle.letter_kinds.specs.Telling.{TellsOnly}
use Rattle.actor_table.proofs.Lying.{place_lies_in}
use Rattle.actor_table.proofs.Telling.{place_tells_in}
use Rattle.actor_table.proofs.Changing.{bits_follow, change_here, going_on, home_within, inside, part_kept, place_read, room_kept}
use Rattle.actor_table.proofs.table.ActorTable.change.Goals as goal

pub change-taken-requires : goal.change-taken-requires
change-taken-requires g c =
    let change = g.C.Changes.as_change c.args.change.now in
    change_here c.self.inside.slots.items c.a.inside.0 change c.index_mut-slot.result.now c.index_mut-slot.ensures.value (c.self.invariant.owned c.a.inside.0)
    (inside (λ a. CanChange a change) c.a.inside.0 _ _ _ c.self.view_is c.a.view_is c.requires)

pub put_bits_after-requires-clause-going : goal.put_bits_after-requires-clause-going
put_bits_after-requires-clause-going g c =
    let s = c.self.inside in
    let change = g.C.Changes.as_change c.args.change.now in
    going_on s.slots.items s.acting s.settling c.a.inside.0 change c.self.invariant (inside (λ a. CanChange a change) c.a.inside.0 _ _ _ c.self.view_is c.a.view_is c.requires)

pub invariant_of-self : goal.invariant_of-self
invariant_of-self g c =
    let s = c.self.inside in
    let can = inside (λ a. CanChange a (g.C.Changes.as_change c.args.change.now)) c.a.inside.0 _ _ _ c.self.view_is c.a.view_is c.requires in
    let bits = c.put_bits_after.ensures in
    bits_follow s.slots.items s.acting s.settling c.a.inside.0 c.index_mut-slot.result.now c.change-taken.new.slot c.self.invariant
    (home_within s.slots.items c.a.inside.0 can.cell can.home) c.index_mut-slot.ensures.value
    (λ its. ap (λ o. unwrap_or o c.a.inside.0) c.change-taken.ensures.kept.owner ∙ its) c.change-taken.ensures.brings c.put_bits_after.new.acting c.put_bits_after.new.settling bits.acting bits.settling

pub returns-clause-rest : goal.returns-clause-rest
returns-clause-rest g c =
    let slots = c.self.inside.slots.items in
    let i = c.a.inside.0 in
    let x = c.change-taken.new.slot in
    let can = inside (λ a. CanChange a (g.C.Changes.as_change c.args.change.now)) i _ _ _ c.self.view_is c.a.view_is c.requires in
    let here = place_read slots i c.index_mut-slot.result.now (home_within slots i can.cell can.home) c.index_mut-slot.ensures.value in
    let kept = c.change-taken.ensures.kept in
    record {
      spare = search rules;
      away = part_kept is_away slots i x (kept.away ∙ ap is_away (sym here)) ∙ ap (λ (t : Table). away_of t.slots) c.self.view_is;
      room = subst (λ (t : Table). KeepsRoom t.slots (set slots i x)) c.self.view_is
          (room_kept slots i x (subst (λ (y : Slot). y.mail.spare ≤ x.mail.spare) (sym here) kept.room));
    }

pub returns-clause-told : goal.returns-clause-told
returns-clause-told g c = λ its home.
    let slots = c.self.inside.slots.items in
    let i = c.a.inside.0 in
    let x = c.change-taken.new.slot in
    let can = inside (λ a. CanChange a (g.C.Changes.as_change c.args.change.now)) i _ _ _ c.self.view_is c.a.view_is c.requires in
    let within = home_within slots i can.cell can.home in
    let here = place_read slots i c.index_mut-slot.result.now within c.index_mut-slot.ensures.value in
    let at_home = inside (λ b (y : Slot). y.place ≡ Home its) i _ _ _ c.self.view_is c.a.view_is home in
    let makes = g.C.Changes.makes_in c.args.change.now its in
    subst (λ (t : Table). TellsOnly (TableTells t.slots) makes (TableTells (set slots i x))) c.self.view_is
    (place_tells_in slots i x c.index_mut-slot.result.now makes within c.index_mut-slot.ensures.value
    (c.change-taken.ensures.told its (ap (λ (y : Slot). y.place) (sym here) ∙ at_home)))

pub returns-clause-lie : goal.returns-clause-lie
returns-clause-lie g c = λ puts.
    let slots = c.self.inside.slots.items in
    let i = c.a.inside.0 in
    let x = c.change-taken.new.slot in
    let can = inside (λ a. CanChange a (g.C.Changes.as_change c.args.change.now)) i _ _ _ c.self.view_is c.a.view_is c.requires in
    subst (λ (t : Table). TableLies t.slots → TableLies (set slots i x)) c.self.view_is
    (place_lies_in slots i x c.index_mut-slot.result.now (home_within slots i can.cell can.home) c.index_mut-slot.ensures.value (c.change-taken.ensures.lie puts))
