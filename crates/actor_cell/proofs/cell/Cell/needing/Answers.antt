use Rattle.std.proofs.Common.{map, ap, ◌∙◌}
use Rattle.orca_names.specs.declared.names.Thing.{Thing}
use Rattle.letter_kinds.specs.Counting.{Amount}
use Rattle.actor_cell.specs.Moves.{Mint}
use Rattle.root_trace.specs.Missing.{missing_of}
use Rattle.actor_cell.specs.Cells.{as_cell}
use Rattle.actor_cell.proofs.cell.Cell.needing.Goals as goal

pub returns-clause-act : goal.returns-clause-act
returns-clause-act c =
    let s = c.args.self.now in
    let amount : Thing → Amount = λ x. (x, c.args.weight) in
    let lacked = c.as_slice.ensures.value ∙ c.in_ok-lacked.ensures s.count s.heap ∙ ap (λ me. missing_of me (as_cell s).holdings c.args.thing.now) c.owner.ensures in
    λ i. Mint (c.owner-owner.ensures i) ((c.in_ok-found.ensures ∙ ap (map amount) lacked) i)
