use Rattle.std.proofs.Common.{◌≡◌, refl, subst}
use Rattle.object_heap.specs.Heap.{with_new}
use Rattle.letter_kinds.specs.Telling.{made_in}
use Rattle.actor_cell.specs.Tells.{blocks_for}
use Rattle.actor_cell.proofs.Lying.{lie_placed}
use Rattle.actor_cell.proofs.Tells.{own_made, tells_own}
use Rattle.actor_cell.proofs.cell.Cell.keep_turn.Goals as goal

pub returns-clause-told : goal.returns-clause-told
returns-clause-told c =
    let s = c.args.self.now in
    let made = c.args.turn.now.made in
    let blocks = c.args.blocks.now in
    let after = c.make_all.new.heap in
    let is = subst (λ rows. after ≡ with_new rows (blocks_for rows blocks) s.heap) c.made.ensures c.make_all.ensures in
    tells_own s.heap after s.foreign s.foreign s.known s.known (made_in s.heap.owner s.heap.next made blocks) (own_made made blocks s.heap after is) refl refl

pub returns-clause-lie : goal.returns-clause-lie
returns-clause-lie c =
    let s = c.args.self.now in
    let blocks = c.args.blocks.now in
    let after = c.make_all.new.heap in
    let is = subst (λ rows. after ≡ with_new rows (blocks_for rows blocks) s.heap) c.made.ensures c.make_all.ensures in
    lie_placed c.args.turn.now.made blocks s.heap after is
