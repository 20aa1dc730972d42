use Rattle.std.proofs.Common.{[], ◌≤◌, ap, rules, set, subst, sym, ◌∙◌}
use Rattle.letter_kinds.specs.Telling.{TellsOnly}
use Rattle.actor_table.specs.Changes.{KeepsRoom}
use Rattle.actor_table.specs.declared.slot.Slot.{Slot}
use Rattle.actor_table.specs.Slots.{Table, actors_of, away_of, is_away, is_away_in, letters_in, owner_in, places_of, seat_in, seat_of}
use Rattle.actor_table.specs.Telling.{PlaceLies, TableLies, TableTells}
use Rattle.actor_table.proofs.Bringing.{brings_same}
use Rattle.actor_table.proofs.Lying.{place_lies_in}
use Rattle.actor_table.proofs.Telling.{place_tells_in, slot_same}
use Rattle.actor_table.proofs.Changing.{index_stays, part_kept, place_read, room_kept}
use Rattle.actor_table.proofs.table.ActorTable.reserve_letters.Goals as goal

pub invariant_of-self : goal.invariant_of-self
invariant_of-self c =
    let s = c.self.inside in
    let does = c.reserve_letters.ensures in
    index_stays s.slots.items s.acting s.settling c.to.inside.0 c.index_mut.result.now c.reserve_letters.new.slot c.self.invariant (search rules) c.index_mut.ensures.value
    (search rules) (search rules) (search rules)
    (brings_same c.reserve_letters.new.slot c.index_mut.result.now does.letters does.brought (ap owner_in does.place))

pub returns-clause-same : goal.returns-clause-same
returns-clause-same c =
    let slots = c.self.inside.slots.items in
    let i = c.to.inside.0 in
    let x = c.reserve_letters.new.slot in
    let y = c.index_mut.result.now in
    let does = c.reserve_letters.ensures in
    let here = place_read slots i y (search rules) c.index_mut.ensures.value in
    let place = does.place ∙ ap (λ (s : Slot). s.place) (sym here) in
    let letters = does.letters ∙ ap (λ (s : Slot). s.mail.letters) (sym here) in
    record {
      places = part_kept (λ (s : Slot). s.place) slots i x place ∙ ap (λ (t : Table). places_of t.slots) c.self.view_is;
      letters = part_kept (λ (s : Slot). s.mail.letters) slots i x letters ∙ ap (λ (t : Table). letters_in t.slots) c.self.view_is;
      told = subst (λ (t : Table). TellsOnly (TableTells t.slots) [] (TableTells (set slots i x))) c.self.view_is
          (place_tells_in slots i x y [] (search rules) c.index_mut.ensures.value (slot_same x y [] does.place does.brought));
      actors = part_kept seat_of slots i x (λ j. seat_in (place j) (letters j)) ∙ ap (λ (t : Table). actors_of t.slots) c.self.view_is;
      away = part_kept is_away slots i x (ap is_away_in place) ∙ ap (λ (t : Table). away_of t.slots) c.self.view_is;
      space = record {
        spare = search rules;
        room = subst (λ (t : Table). KeepsRoom t.slots (set slots i x)) c.self.view_is
            (room_kept slots i x (subst (λ (s : Slot). s.mail.spare ≤ x.mail.spare) (sym here) does.room));
      };
    }

pub returns-clause-lie : goal.returns-clause-lie
returns-clause-lie c =
    let slots = c.self.inside.slots.items in
    let i = c.to.inside.0 in
    subst (λ (t : Table). TableLies t.slots → TableLies (set slots i c.reserve_letters.new.slot)) c.self.view_is
    (place_lies_in slots i c.reserve_letters.new.slot c.index_mut.result.now (search rules) c.index_mut.ensures.value (subst PlaceLies (sym c.reserve_letters.ensures.place)))
