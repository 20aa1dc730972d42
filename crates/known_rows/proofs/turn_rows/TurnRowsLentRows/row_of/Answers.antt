use Rattle.std.proofs.Common.{ℕ, Option, None, Some, sym, ap, subst, ◌∙◌}
use Rattle.std.specs.Prelude.{if◌then◌else◌, is_some}
use Rattle.row_store.specs.Lent.{IsLent}
use Rattle.letter_kinds.specs.Holdings.{Row, row_of}
use Rattle.known_rows.specs.Holdings.{holdings_of}
use Rattle.known_rows.specs.Known.{block_known, row_known-row_of}
use Rattle.known_rows.specs.InTurn.{made_in_turn}
use Rattle.known_rows.proofs.Made.{or_before, row_of-made}
use Rattle.known_rows.proofs.turn_rows.TurnRowsLentRows.row_of.Goals as goal

pub returns-in-Some : goal.returns-in-Some
returns-in-Some c =
    let heap = c.args.self.now.known.heap.now in
    let foreign = c.args.self.now.known.foreign.now in
    let h = holdings_of 0 heap foreign in
    let made = c.args.self.now.made.now in
    let n = c.args.n in
    let is = c.in-Some.ensures ∙ (λ i. made_in_turn (c.owner.ensures i) (c.made.ensures i) made n) in
    let row = ap Some c.as_slice.ensures.value ∙ ap (λ o. or_before o (row_of heap.owner h n)) is ∙ sym (row_of-made heap.owner made h n) in
    (sym row, ap (λ o. if is_some o then None else block_known heap foreign n) (sym is), c.as_slice.ensures.room.0, c.as_slice.ensures.room.1)

pub returns-in-None : goal.returns-in-None
returns-in-None c =
    let heap = c.args.self.now.known.heap.now in
    let foreign = c.args.self.now.known.foreign.now in
    let h = holdings_of 0 heap foreign in
    let made = c.args.self.now.made.now in
    let n = c.args.n in
    let is = c.in-None.ensures ∙ (λ i. made_in_turn (c.owner.ensures i) (c.made.ensures i) made n) in
    let row = row_known-row_of 0 heap foreign n ∙ ap (λ o. or_before o (row_of heap.owner h n)) is ∙ sym (row_of-made heap.owner made h n) in
    let block = ap (λ o. if is_some o then None else block_known heap foreign n) is in
    subst (λ (l : Option Row × Option ℕ). IsLent l.0 l.1 c.row_of.result) (λ j. (row j, block j)) c.row_of.ensures
