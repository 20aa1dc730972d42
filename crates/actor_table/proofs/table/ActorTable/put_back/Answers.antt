use Rattle.std.proofs.Common.{◌≡◌, [], Some, ap, rules, set, subst, sym, true, ◌∙◌}
use Rattle.std.specs.Prelude.{option_map}
use Rattle.machine_rules.specs.Actors.{Seat}
use Rattle.actor_cell.specs.Cells.{as_cell}
use Rattle.actor_cell.specs.Tells.{Tells}
use Rattle.letter_kinds.specs.Telling.{TellsOnly}
use Rattle.mail_rows.specs.Mail.{Mail}
use Rattle.actor_table.specs.Bringing.{AreBrought, BringsIts}
use Rattle.actor_table.specs.Telling.{PlaceLies, PlaceTells, TableLies, TableTells}
use Rattle.actor_table.proofs.Bringing.{brings_home}
use Rattle.actor_table.proofs.Lying.{place_lies_in}
use Rattle.actor_table.proofs.Telling.{place_tells, slot_back}
use Rattle.actor_table.specs.declared.slot.Slot.{Slot}
use Rattle.actor_table.specs.Slots.{Table, actors_of, is_away, seat_of, slot_at}
use Rattle.actor_table.proofs.Changing.{away_within, bits_follow, inside, part_kept, place_read, seat_back, seat_read}
use Rattle.actor_table.proofs.table.ActorTable.put_back.Goals as goal

pub invariant_of-self : goal.invariant_of-self
invariant_of-self c =
    let s = c.self.inside in
    let x = c.put_back.new.slot in
    let away = inside (λ _ x. is_away x ≡ true) c.a.inside.0 _ _ _ c.self.view_is c.a.view_is c.requires.away in
    bits_follow s.slots.items s.acting s.settling c.a.inside.0 c.index_mut-slot.result.now x c.self.invariant (away_within s.slots.items c.a.inside.0 away)
    c.index_mut-slot.ensures.value (λ _. search rules)
    (λ (its : BringsIts c.index_mut-slot.result.now). brings_home x c.args.cell c.put_back.ensures.place
    (subst (λ (m : Mail). AreBrought m.letters m.brought) (sym c.put_back.ensures.mail) its.brought))
    c.put_bits.new.acting c.put_bits.new.settling c.put_bits.ensures.acting c.put_bits.ensures.settling

pub returns-clause-actors : goal.returns-clause-actors
returns-clause-actors c =
    let slots = c.self.inside.slots.items in
    let i = c.a.inside.0 in
    let away = inside (λ _ x. is_away x ≡ true) i _ _ _ c.self.view_is c.a.view_is c.requires.away in
    let same = inside (λ _ x. option_map (λ (o : Seat). o.cell) (seat_of x) ≡ Some (as_cell c.args.cell)) i _ _ _ c.self.view_is c.a.view_is
    (sym (ap (option_map (λ (o : Seat). o.cell)) (seat_read c.args.self.now.slots c.args.a)) ∙ c.requires.same) in
    let here = place_read slots i c.index_mut-slot.result.now (away_within slots i away) c.index_mut-slot.ensures.value in
    part_kept seat_of slots i c.put_back.new.slot
    (seat_back c.put_back.new.slot _ c.args.cell away same c.put_back.ensures.place (c.put_back.ensures.mail ∙ ap (λ (y : Slot). y.mail) (sym here)))
    ∙ ap (λ (t : Table). actors_of t.slots) c.self.view_is

pub returns-clause-told : goal.returns-clause-told
returns-clause-told c =
    let slots = c.self.inside.slots.items in
    let i = c.a.inside.0 in
    let x = c.put_back.new.slot in
    let away = inside (λ _ x. is_away x ≡ true) i _ _ _ c.self.view_is c.a.view_is c.requires.away in
    let within = away_within slots i away in
    let its = inside (λ _ x. TellsOnly (PlaceTells x.place) [] (Tells c.args.cell)) i _ _ _ c.self.view_is c.a.view_is c.requires.told in
    let here = place_read slots i c.index_mut-slot.result.now within c.index_mut-slot.ensures.value in
    subst (λ (t : Table). TellsOnly (TableTells t.slots) [] (TableTells (set slots i x))) c.self.view_is
    (place_tells slots i x [] within
    (slot_back x (slot_at slots i) c.args.cell c.put_back.ensures.place (c.put_back.ensures.mail ∙ ap (λ (y : Slot). y.mail) (sym here)) its))

pub returns-clause-lie : goal.returns-clause-lie
returns-clause-lie c = λ its.
    let slots = c.self.inside.slots.items in
    let i = c.a.inside.0 in
    let x = c.put_back.new.slot in
    let away = inside (λ _ x. is_away x ≡ true) i _ _ _ c.self.view_is c.a.view_is c.requires.away in
    subst (λ (t : Table). TableLies t.slots → TableLies (set slots i x)) c.self.view_is
    (place_lies_in slots i x c.index_mut-slot.result.now (away_within slots i away) c.index_mut-slot.ensures.value (λ _. subst PlaceLies (sym c.put_back.ensures.place) its))
