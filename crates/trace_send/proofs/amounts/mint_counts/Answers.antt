use Rattle.std.proofs.Common.{◌≡◌, ℕ, ◌+◌, ◌<◌, ◌≤◌, get_or, length, drop, sym, ap, ◌∙◌, subst, arith}
use Rattle.std.proofs.lemmas.List.{drop_all}
use Rattle.std.specs.FinMap as m
use Rattle.letter_kinds.specs.Counting.{mint_all, mint_one}
use Rattle.letter_kinds.specs.Holdings.{entry_row}
use Rattle.object_heap.specs.Heap.{Heap}
use Rattle.foreign_table.specs.Table.{Table, block_at, count_unheld}
use Rattle.foreign_table.proofs.Unheld.{room_first, room_left}
use Rattle.ref_weights.specs.Limit.{count_limit}
use Rattle.known_rows.specs.Holdings.{holdings_of}
use Rattle.trace_send.specs.Blocks.{blocks_minted}
use Rattle.trace_send.specs.Can.{CanMint}
use Rattle.trace_send.proofs.Blocks.{blocks_minted-cons, blocks_minted-nil}
use Rattle.trace_send.proofs.Raising.{mint_all-cons, mint_all-nil, no_heap}
use Rattle.trace_send.proofs.Steps.{held-is, rest_of, set-spent}
use Rattle.trace_send.proofs.amounts.mint_counts.Goals as goal

pub mint-requires-clause-room : goal.mint-requires-clause-room
mint-requires-clause-room c =
    let things = c.args.things.now in
    let i = c.loop-amount.amount-index in
    let e = c.amount-item.result in
    let inside : i < length things = omega (arith, ap length c.as_slice-amount-items.ensures) in
    let rest = rest_of things i e inside (c.amount-item.is ∙ ap (λ xs. get_or xs i e) c.as_slice-amount-items.ensures) in
    let foreign = c.loop-amount.foreign in
    let room = subst (λ xs. count_unheld xs foreign.entries ≤ foreign.spare) rest c.loop-amount.invariant.room in
    room_first foreign e (drop (i + 1) things) room

pub mint-requires-clause-fits : goal.mint-requires-clause-fits
mint-requires-clause-fits c =
    let things = c.args.things.now in
    let i = c.loop-amount.amount-index in
    let e = c.amount-item.result in
    let inside : i < length things = omega (arith, ap length c.as_slice-amount-items.ensures) in
    let rest = rest_of things i e inside (c.amount-item.is ∙ ap (λ xs. get_or xs i e) c.as_slice-amount-items.ensures) in
    let foreign = c.loop-amount.foreign in
    let can = subst (λ xs. CanMint xs (holdings_of 0 no_heap foreign)) rest (c.loop-amount.invariant.can 0 no_heap) in
    subst (λ n. n + e.1 < count_limit) (held-is 0 no_heap foreign e.0) can.0

pub loop-amount-preserved : goal.loop-amount-preserved
loop-amount-preserved c =
    let things = c.args.things.now in
    let i = c.loop-amount.amount-index in
    let e = c.amount-item.result in
    let inside : i < length things = omega (arith, ap length c.as_slice-amount-items.ensures) in
    let rest = rest_of things i e inside (c.amount-item.is ∙ ap (λ xs. get_or xs i e) c.as_slice-amount-items.ensures) in
    let foreign = c.loop-amount.foreign in
    let room = subst (λ xs. count_unheld xs foreign.entries ≤ foreign.spare) rest c.loop-amount.invariant.room in
    let left = room_left foreign e (drop (i + 1) things) room (λ count. count + e.1) (entry_row (m.get foreign.entries e.0)) (block_at foreign.blocks e.0) in
    let step : (count : ℕ) (heap : Heap) → holdings_of count heap c.mint.new.self ≡ mint_one e (holdings_of count heap foreign) = λ count heap.
    ap (holdings_of count heap) c.mint.ensures ∙ sym (set-spent count heap foreign (λ n. n + e.1) e.0) in
    record {
      counts = λ count heap.
          let before = holdings_of count heap foreign in
          ap (mint_all (drop (i + 1) things)) (step count heap) ∙ sym (mint_all-cons e (drop (i + 1) things) before)
          ∙ ap (λ xs. mint_all xs before) (sym rest) ∙ c.loop-amount.invariant.counts count heap;
      can = λ count heap.
          let can = subst (λ xs. CanMint xs (holdings_of count heap foreign)) rest (c.loop-amount.invariant.can count heap) in
          subst (CanMint (drop (i + 1) things)) (sym (step count heap)) can.1;
      blocks = ap (λ (t : Table). blocks_minted (drop (i + 1) things) t.blocks) c.mint.ensures
          ∙ sym (blocks_minted-cons e (drop (i + 1) things) foreign.blocks)
          ∙ ap (λ xs. blocks_minted xs foreign.blocks) (sym rest) ∙ c.loop-amount.invariant.blocks;
      room = subst (λ t. count_unheld (drop (i + 1) things) t.entries ≤ t.spare) (sym c.mint.ensures) left;
    }

pub returns-clause-counts : goal.returns-clause-counts
returns-clause-counts c = λ count heap.
    let now = holdings_of count heap c.loop-amount.foreign in
    let done = drop_all c.loop-amount.amount-index c.args.things.now (omega (arith, ap length c.as_slice-amount-items.ensures)) in
    sym (mint_all-nil now) ∙ ap (λ xs. mint_all xs now) (sym done) ∙ c.loop-amount.invariant.counts count heap

pub returns-clause-blocks : goal.returns-clause-blocks
returns-clause-blocks c =
    let now = c.loop-amount.foreign.blocks in
    let done = drop_all c.loop-amount.amount-index c.args.things.now (omega (arith, ap length c.as_slice-amount-items.ensures)) in
    sym (blocks_minted-nil now) ∙ ap (λ xs. blocks_minted xs now) (sym done) ∙ c.loop-amount.invariant.blocks
