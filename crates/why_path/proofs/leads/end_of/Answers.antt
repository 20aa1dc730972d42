use Rattle.std.proofs.Common.{sym, ap, ◌∙◌}
use Rattle.std.specs.Prelude.{option_map}
use Rattle.why_path.specs.Ends.{end_at_row, end_of}
use Rattle.why_path.specs.Seats.{as_seat}
use Rattle.why_path.proofs.Ending.{end_none, end_object, end_some}
use Rattle.why_path.proofs.leads.end_of.Goals as goal

pub returns-in_err-seat_of-in-Actor : goal.returns-in_err-seat_of-in-Actor
returns-in_err-seat_of-in-Actor c =
    let actors = c.args.orca.now.state.actors in
    let e = c.args.edge.now in
    let gone = sym c.seat_of.ensures.seat ∙ ap (option_map as_seat) c.in_err-seat_of-in-Actor.was in
    c.from_residual.ensures ∙ sym (end_none actors c.in-Actor.a e gone) ∙ ap (λ t. end_of actors t e) (sym c.in-Actor.is)

pub returns-in_ok-seat_of-in-Actor : goal.returns-in_ok-seat_of-in-Actor
returns-in_ok-seat_of-in-Actor c =
    let actors = c.args.orca.now.state.actors in
    let e = c.args.edge.now in
    let at = sym c.seat_of.ensures.seat ∙ ap (option_map as_seat) c.in_ok-seat_of-in-Actor.was in
    c.end_at_seat.ensures ∙ sym (end_some actors c.in-Actor.a (as_seat c.in_ok-seat_of-in-Actor.field-0) e at)
    ∙ ap (λ t. end_of actors t e) (sym c.in-Actor.is)

pub returns-in-Obj : goal.returns-in-Obj
returns-in-Obj c =
    let actors = c.args.orca.now.state.actors in
    let e = c.args.edge.now in
    let n = c.in-Obj.n in
    c.end_at_row.ensures ∙ ap (end_at_row e n.owner) c.row_left.ensures.value ∙ sym (end_object actors n e)
    ∙ ap (λ t. end_of actors t e) (sym c.in-Obj.is)
