use Rattle.std.proofs.Common.{sym, ap, subst, ◌∙◌}
use Rattle.std.specs.Prelude.{⊤}
use Rattle.actor_table.specs.Changes.{HasCell, note_taken}
use Rattle.actor_table.specs.declared.slot.Slot.{Slot}
use Rattle.actor_table.specs.Slots.{IsOwnedBy, Table, actors_of, seat_of}
use Rattle.machine_rules.specs.Actors.{seat_at}
use Rattle.actor_table.proofs.Changing.{home_within, inside, place_read, seat_read}
use Rattle.actor_table.proofs.table.ActorTable.note_on.Goals as goal

pub returns : goal.returns
returns c =
    let slots = c.self.inside.slots.items in
    let i = c.a.inside.0 in
    let at = inside (λ a x. HasCell x (λ c. ⊤)) i _ _ _ c.self.view_is c.a.view_is c.requires in
    let here = place_read slots i c.index.result.now (home_within slots i at.cell at.home) c.index.ensures in
    let owned = subst (λ (x : Slot). IsOwnedBy i x.place) here (c.self.invariant.owned i) in
    c.note_on.ensures i owned ∙ ap (λ (x : Slot). note_taken i (seat_of x)) (sym here) ∙ ap (note_taken i) (sym (seat_read slots i))
    ∙ ap (λ (t : Table). note_taken i (seat_at (actors_of t.slots) i)) c.self.view_is
    ∙ ap (λ a. note_taken a (seat_at (actors_of c.args.self.now.slots) a)) c.a.view_is
