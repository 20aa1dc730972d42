use Rattle.std.proofs.Common.{◌≡◌, refl, ap, subst, sym, ◌∙◌}
use Rattle.letter_kinds.specs.Load.{as_load}
use Rattle.foreign_table.specs.Table.{block_at}
use Rattle.known_rows.specs.Holdings.{holdings_of}
use Rattle.trace_send.specs.Can.{CanMint}
use Rattle.trace_send.proofs.Blocks.{minted_block}
use Rattle.trace_send.proofs.Raising.{can_mint_with}
use Rattle.actor_cell.specs.declared.turning.Doing.{Doing}
use Rattle.actor_cell.specs.Cells.{as_cell}
use Rattle.actor_cell.specs.Goes.{CanMove}
use Rattle.actor_cell.specs.Moves.{move_of}
use Rattle.object_heap.specs.Heap.{with_new}
use Rattle.letter_kinds.specs.Telling.{in_block, made_in}
use Rattle.actor_cell.specs.Tells.{PutsAll, blocks_for}
use Rattle.actor_cell.proofs.Lying.{lie_placed}
use Rattle.actor_cell.proofs.Tells.{SameRows, own_made, same_minted, tells_counted, tells_own, told_before}
use Rattle.actor_cell.proofs.cell.Cell.apply_go.Goals as goal

pub mint_counts-requires-clause-can : goal.mint_counts-requires-clause-can
mint_counts-requires-clause-can c = λ count heap.
    let s = c.args.self.now in
    let found = c.args.found.now in
    let its : CanMint found.things (as_cell s).holdings =
    subst (λ (d : Doing). CanMove s.heap.owner (as_cell s).holdings c.args.turn.now (move_of d found.args (as_load found.load) (as_load found.rows) found.things)) c.in-Mint.is c.requires.can in
    can_mint_with found.things (as_cell s).holdings (holdings_of count heap s.foreign) refl its

pub returns-in-Post-clause-told : goal.returns-in-Post-clause-told
returns-in-Post-clause-told c = λ n row block told.
    told_before (in_block n row block) (c.send.ensures.told n row block told) (c.keep_turn.ensures.told n row block)

pub returns-in-Mint-clause-told : goal.returns-in-Mint-clause-told
returns-in-Mint-clause-told c =
    let s = c.args.self.now in
    let after = c.mint_counts.new.foreign in
    let its = c.mint_counts.ensures in
    let things = c.args.found.now.things in
    let h = (as_cell s).holdings in
    let rows = subst (λ g. SameRows g h) (sym (its.counts s.count s.heap)) (same_minted things h) in
    tells_counted s.heap s.heap s.foreign after s.known s.known s.count s.count (made_in s.heap.owner s.heap.next c.args.turn.now.made c.args.blocks.now) refl rows refl
    (λ x. ap (λ bs. block_at bs x) its.blocks ∙ minted_block things s.foreign.blocks x) refl refl

pub returns-in-Rest-clause-told : goal.returns-in-Rest-clause-told
returns-in-Rest-clause-told c =
    let s = c.args.self.now in
    let made = c.args.turn.now.made in
    let blocks = c.args.blocks.now in
    let after = c.make_all.new.heap in
    let is = subst (λ rows. after ≡ with_new rows (blocks_for rows blocks) s.heap) c.made.ensures c.make_all.ensures in
    tells_own s.heap after s.foreign s.foreign s.known s.known (made_in s.heap.owner s.heap.next made blocks) (own_made made blocks s.heap after is) refl refl

pub returns-in-Post-clause-lie : goal.returns-in-Post-clause-lie
returns-in-Post-clause-lie c = λ puts all. c.send.ensures.lie (c.keep_turn.ensures.lie
    (subst (λ (d : Doing). PutsAll c.args.turn.now.made (move_of d c.args.found.now.args (as_load c.args.found.now.load) (as_load c.args.found.now.rows) c.args.found.now.things) c.args.blocks.now) c.in-Post.is puts) all)

pub returns-in-Mint-clause-lie : goal.returns-in-Mint-clause-lie
returns-in-Mint-clause-lie c = λ puts all. all

pub returns-in-New-clause-lie : goal.returns-in-New-clause-lie
returns-in-New-clause-lie c = λ puts. c.keep_turn-in-New.ensures.lie
    (subst (λ (d : Doing). PutsAll c.args.turn.now.made (move_of d c.args.found.now.args (as_load c.args.found.now.load) (as_load c.args.found.now.rows) c.args.found.now.things) c.args.blocks.now) c.in-New.is puts)

pub returns-in-Print-clause-lie : goal.returns-in-Print-clause-lie
returns-in-Print-clause-lie c = λ puts. c.keep_turn-in-Print.ensures.lie
    (subst (λ (d : Doing). PutsAll c.args.turn.now.made (move_of d c.args.found.now.args (as_load c.args.found.now.load) (as_load c.args.found.now.rows) c.args.found.now.things) c.args.blocks.now) c.in-Print.is puts)

pub returns-in-End-clause-lie : goal.returns-in-End-clause-lie
returns-in-End-clause-lie c = λ puts. c.keep_turn-in-End.ensures.lie
    (subst (λ (d : Doing). PutsAll c.args.turn.now.made (move_of d c.args.found.now.args (as_load c.args.found.now.load) (as_load c.args.found.now.rows) c.args.found.now.things) c.args.blocks.now) c.in-End.is puts)

pub returns-in-Rest-clause-lie : goal.returns-in-Rest-clause-lie
returns-in-Rest-clause-lie c = λ puts.
    let s = c.args.self.now in
    let blocks = c.args.blocks.now in
    let after = c.make_all.new.heap in
    let is = subst (λ rows. after ≡ with_new rows (blocks_for rows blocks) s.heap) c.made.ensures c.make_all.ensures in
    lie_placed c.args.turn.now.made blocks s.heap after is
    (subst (λ (d : Doing). PutsAll c.args.turn.now.made (move_of d c.args.found.now.args (as_load c.args.found.now.load) (as_load c.args.found.now.rows) c.args.found.now.things) c.args.blocks.now) c.in-Rest.is puts)
