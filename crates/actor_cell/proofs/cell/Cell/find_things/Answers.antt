use Rattle.std.proofs.Common.{◌≡◌, ap, subst, sym, ◌∙◌}
use Rattle.std.specs.Prelude.{OnOk}
use Rattle.letter_kinds.specs.Holdings.{with_made}
use Rattle.actor_cell.specs.Cells.{as_cell}
use Rattle.actor_cell.specs.Goes.{things_from}
use Rattle.actor_cell.proofs.Posting.{roots_are}
use Rattle.actor_cell.proofs.cell.Cell.find_things.Goals as goal

pub returns-in-Roots-clause-things : goal.returns-in-Roots-clause-things
returns-in-Roots-clause-things g c =
    let s = c.args.self.now in
    let me = s.heap.owner in
    let h = with_made c.args.made.now (as_cell s).holdings in
    subst (λ it. OnOk c.find_loaded_roots.result (c.find_loaded_roots.new.things ≡ it))
    (roots_are me h c.args.args.now ∙ ap (λ t. things_from t me h c.args.args.now) (sym c.in-Roots.is)) c.find_loaded_roots.ensures
