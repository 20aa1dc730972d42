use Rattle.std.proofs.Common.{◌∙◌, ap, sym, subst}
use Rattle.row_store.specs.Lent.{IsLent}
use Rattle.row_store.specs.Told.{thing_block, thing_row}
use Rattle.foreign_table.specs.Table.{block_at, known_block, known_row}
use Rattle.known_rows.proofs.Placed.{blocked_entry, rowed_entry}
use Rattle.known_rows.proofs.places.held_entry.Goals as goal

pub returns-clause-row : goal.returns-clause-row
returns-clause-row c =
    let foreign = c.args.foreign.now in
    let entry = c.at-thing in
    let found = entry.ensures.entry in
    let lent = c.of_object.result in
    let same = sym c.of_object.ensures.thing in
    let row = rowed_entry foreign entry.result.0 c.args.j entry.result.1 found.0 found.1 ∙ ap (thing_row (known_row foreign)) same in
    let block = blocked_entry foreign entry.result.0 ∙ ap (thing_block (known_block foreign)) same in
    subst (λ b. IsLent (thing_row (known_row foreign) lent.0) b lent.1) block
    (subst (λ r. IsLent r (thing_block (λ _. block_at foreign.blocks entry.result.0) entry.result.0) lent.1) row
    (c.of_object.ensures.row found.0 (block_at foreign.blocks entry.result.0) found.2))
