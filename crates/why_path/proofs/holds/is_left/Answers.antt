use Rattle.std.proofs.Common.{◌≡◌, true, refl, sym, ap, subst, ◌∙◌}
use Rattle.std.specs.Prelude.{option_map}
use Rattle.orca_names.specs.Names.{owner_of}
use Rattle.letter_kinds.specs.Holdings.{has_own}
use Rattle.letter_kinds.proofs.Counts.{has_actor}
use Rattle.machine_rules.specs.Actors.{seat_at}
use Rattle.why_path.specs.Seats.{as_seat}
use Rattle.why_path.proofs.Listing.{heap_has, left_where}
use Rattle.why_path.proofs.holds.is_left.Goals as goal

pub returns-in-Actor : goal.returns-in-Actor
returns-in-Actor c =
    let actors = c.args.orca.now.state.actors in
    let x = c.args.thing.now in
    let o = as_seat c.in-Some.seat in
    let at = ap (seat_at actors) (sym c.owner.ensures) ∙ sym c.seat_of.ensures.seat ∙ ap (option_map as_seat) c.in-Some.is in
    let has = subst (λ y. has_own o.cell.holdings y ≡ true) (sym c.in-Actor.is) (has_actor o.cell.holdings c.in-Actor.field-0) in
    ((λ _. (left_where actors x o at).0 has), (λ _. refl))

pub returns-in-Obj : goal.returns-in-Obj
returns-in-Obj c =
    let actors = c.args.orca.now.state.actors in
    let x = c.args.thing.now in
    let o = as_seat c.in-Some.seat in
    let n = c.in-Obj.n in
    let cell = c.in-Some.seat.cell.now in
    let at = ap (seat_at actors) (sym c.owner.ensures) ∙ sym c.seat_of.ensures.seat ∙ ap (option_map as_seat) c.in-Some.is in
    let mine = sym (c.in-Some.ensures.owner ∙ c.owner.ensures ∙ ap owner_of c.in-Obj.is) in
    let has = heap_has cell n mine in
    let left = left_where actors x o at in (
      λ e. left.0 (subst (λ y. has_own o.cell.holdings y ≡ true) (sym c.in-Obj.is) (has.0 (c.has.ensures.0 e))),
      λ is. c.has.ensures.1 (has.1 (subst (λ y. has_own o.cell.holdings y ≡ true) c.in-Obj.is (left.1 is))),
    )
