use Rattle.std.proofs.Common.{◌≡◌, [], ap, sym, ◌∙◌}
use Rattle.std.proofs.lemmas.Result.{IfOk-weaker}
use Rattle.letter_kinds.specs.Load.{as_load}
use Rattle.letter_kinds.specs.Holdings.{with_made}
use Rattle.letter_kinds.specs.Telling.{TellsOnly, Told}
use Rattle.machine_rules.specs.Go.{load_from}
use Rattle.actor_cell.specs.Cells.{as_cell}
use Rattle.actor_cell.specs.Goes.{things_from}
use Rattle.actor_cell.specs.Tells.{Tells}
use Rattle.actor_cell.proofs.Posting.{bare_is, rowed_is}
use Rattle.actor_cell.proofs.Standing.{none_told}
use Rattle.actor_cell.proofs.cell.Cell.load.Goals as goal

pub returns-in-Deep-clause-load : goal.returns-in-Deep-clause-load
returns-in-Deep-clause-load g c = λ args is.
    let s = c.args.self.now in
    let me = s.heap.owner in
    let h = with_made c.args.made.now (as_cell s).holdings in
    let its = rowed_is me h args c.args.things.now (is ∙ ap (λ t. things_from t me h args) c.in-Deep.is) in
    IfOk-weaker c.rowed.result _ (λ load. as_load load ≡ load_from c.args.trace me h args)
    (λ load e. e ∙ its ∙ ap (λ t. load_from t me h args) (sym c.in-Deep.is)) c.rowed.ensures.load

pub returns-in-Roots-clause-load : goal.returns-in-Roots-clause-load
returns-in-Roots-clause-load g c = λ args is.
    let s = c.args.self.now in
    let me = s.heap.owner in
    let h = with_made c.args.made.now (as_cell s).holdings in
    let its = bare_is me h args c.args.things.now (is ∙ ap (λ t. things_from t me h args) c.in-Roots.is) in
    IfOk-weaker c.without_rows.result _ (λ load. as_load load ≡ load_from c.args.trace me h args)
    (λ load e. e ∙ its ∙ ap (λ t. load_from t me h args) (sym c.in-Roots.is)) c.without_rows.ensures.load

pub returns-in-Roots-clause-told : goal.returns-in-Roots-clause-told
returns-in-Roots-clause-told g c =
    let s = c.args.self.now in
    IfOk-weaker c.without_rows.result _ (λ load. TellsOnly (Tells s) [] (Told load)) (λ load none. none_told (Tells s) (Told load) none) c.without_rows.ensures.told
