use Rattle.std.proofs.Common.{◌≡◌, Some, None, refl, sym, ◌∙◌}
use Rattle.machine_rules.specs.Actors.{cell_at}
use Rattle.actor_cell.specs.Cells.{as_cell}
use Rattle.orca_core.proofs.Listing.{here_at_home}
use Rattle.why_path.proofs.Answering.{joined}
use Rattle.why_path.proofs.Listing.{listed_of, none_of}
use Rattle.why_path.proofs.holds.lists_of.Goals as goal

pub returns-in-Some : goal.returns-in-Some
returns-in-Some c =
    let m = c.args.orca.now in
    let cell = c.in-Some.cell.now in
    let here : cell_at m.state.actors c.args.a ≡ Some (as_cell cell) =
    here_at_home m c.args.a (c.requires.home c.args.a) ∙ sym c.in-Some.ensures.cell in
    joined c.lists_cell.ensures (listed_of m.state.actors c.args.reasons.now c.args.a cell here c.in-Some.ensures.owner)

pub returns-in-None : goal.returns-in-None
returns-in-None c =
    let m = c.args.orca.now in
    let gone : cell_at m.state.actors c.args.a ≡ None =
    here_at_home m c.args.a (c.requires.home c.args.a) ∙ sym c.in-None.ensures.cell in
    ((λ _ x left own. absurd (none_of m.state.actors c.args.a x gone own left)), (λ _. refl))
