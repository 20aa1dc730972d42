use Rattle.std.proofs.Common.{◌≡◌, None, Some, map, sym, ap, subst, ◌∙◌}
use Rattle.machine_rules.specs.Actors.{cell_at, seat_at}
use Rattle.machine_rules.specs.Balance.{held_at}
use Rattle.actor_cell.specs.Cells.{as_cell}
use Rattle.orca_core.proofs.Listing.{here_at_home}
use Rattle.count_ledger.specs.Lines.{HasRoom, raised_by}
use Rattle.count_ledger.specs.declared.lines.Column.TheVariants.{Held}
use Rattle.count_ledger.proofs.Adding.{none_added}
use Rattle.count_ledger.proofs.Seated.{held_from, held_gone}
use Rattle.count_ledger.proofs.actors.add_held_of.Goals as goal

pub add_held-requires-clause-room : goal.add_held-requires-clause-room
add_held-requires-clause-room c =
    let m = c.args.orca.now in
    let a = c.args.a in
    let cell = c.in-Some.cell.now in
    let here : cell_at m.state.actors a ≡ Some (as_cell cell) = here_at_home m a (c.requires.home a)
    ∙ sym c.in-Some.ensures.cell in
    subst (λ said. HasRoom Held said c.args.sums.now)
    (λ i x. held_from x (seat_at m.state.actors a) cell here i) c.requires.room

pub returns-in-Some : goal.returns-in-Some
returns-in-Some c =
    let m = c.args.orca.now in
    let a = c.args.a in
    let cell = c.in-Some.cell.now in
    let here : cell_at m.state.actors a ≡ Some (as_cell cell) = here_at_home m a (c.requires.home a)
    ∙ sym c.in-Some.ensures.cell in
    c.add_held.ensures
    ∙ ap (λ said. map (raised_by Held said) c.args.sums.now)
    (λ i x. sym (held_from x (seat_at m.state.actors a) cell here) i)

pub returns-in_default : goal.returns-in_default
returns-in_default c =
    let m = c.args.orca.now in
    let a = c.args.a in
    let gone : cell_at m.state.actors a ≡ None = here_at_home m a (c.requires.home a)
    ∙ sym c.in_default.ensures.cell in
    sym (none_added Held c.args.sums.now (λ x. held_at x (seat_at m.state.actors a))
    (λ x. held_gone x (seat_at m.state.actors a) gone))
