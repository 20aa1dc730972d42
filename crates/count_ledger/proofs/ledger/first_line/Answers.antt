use Rattle.std.proofs.Common.{◌≡◌, Some, sym, ap, subst, ◌∙◌}
use Rattle.machine_rules.specs.Actors.{cell_at}
use Rattle.machine_rules.specs.Balance.{owner_seat}
use Rattle.actor_cell.specs.Cells.{as_cell}
use Rattle.orca_core.proofs.Listing.{here_at_home}
use Rattle.count_ledger.proofs.Seated.{line, line_none, own_from}
use Rattle.count_ledger.proofs.ledger.first_line.Goals as goal

pub returns : goal.returns
returns c =
    let m = c.args.orca.now in
    let actors = m.state.actors in
    let x = c.args.thing in
    let cell = c.in-Some.cell.now in
    let a = c.owner.result in
    let at : cell_at actors a ≡ Some (as_cell cell) = here_at_home m a (c.requires.home a)
    ∙ sym c.in-Some.ensures.cell in
    let here = subst (λ b. cell_at actors b ≡ Some (as_cell cell)) c.owner.ensures at in
    let count = c.own_count.ensures ∙ own_from x (owner_seat actors x) cell here in
    ap (λ n. line x n 0 0 0 0) count ∙ line_none actors x
