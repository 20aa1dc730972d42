use Rattle.std.proofs.Common.{◌+◌, ◌∙◌, slice_get, length, arith, refl, subst, sym, ap}
use Rattle.std.specs.Prelude.{◌==◌}
use Rattle.std.proofs.lemmas.Bool.{eq-eqb, eqb-true}
use Rattle.std.proofs.lemmas.Option.{slice_get_read}
use Rattle.object_heap.specs.Heap.{own_block}
use Rattle.row_blocks.proofs.GivenBack.{Gives, all_given, apart_rise, given_one, nothing_given}
use Rattle.row_blocks.proofs.Owning.{as_many, begin, found_own, lies_told, names_rise, names_there, own_names, seen, seen_block, seen_name}
use Rattle.row_blocks.proofs.giving.give_back_all.Goals as goal

pub returns-then-len-eq0 : goal.returns-then-len-eq0
returns-then-len-eq0 c =
    nothing_given (λ n. n.owner == c.args.heap.now.owner) c.args.blocks.now (omega (arith, c.len.ensures))

pub loop-entry-init : goal.loop-entry-init
loop-entry-init c =
    let heap = c.args.heap.now in
    begin (λ n. n.owner == heap.owner) (own_names heap) heap c.args.blocks.now
    (c.requires.lie (omega (arith, c.len.ensures, c.if-len-eq0.false))) (names_there heap)
    (λ k n at goes. let mine = eqb-true n.owner heap.owner goes in found_own heap n mine (c.requires.left k n at mine))

pub unreachable-requires : goal.unreachable-requires
unreachable-requires c =
    let i = c.loop-entry.entry-index in
    let x = c.entry-item.result in
    let at = slice_get_read c.objects-entry-items.result.now _ i x refl c.loop-entry-test.true c.entry-item.is in
    let own = ap (λ xs. slice_get xs i) (sym c.objects-entry-items.ensures) ∙ at in
    lies_told c.args.heap.now c.args.blocks.now (c.requires.lie (omega (arith, c.len.ensures, c.if-len-eq0.false))) i x own
    (sym c.block.ensures ∙ c.in_default.is)

pub give_back-requires : goal.give_back-requires
give_back-requires c =
    let i = c.loop-entry.entry-index in
    let x = c.entry-item.result in
    let at = slice_get_read c.objects-entry-items.result.now _ i x refl c.loop-entry-test.true c.entry-item.is in
    let own = ap (λ xs. slice_get xs i) (sym c.objects-entry-items.ensures) ∙ at in
    let heap = c.args.heap.now in
    let lie = c.requires.lie (omega (arith, c.len.ensures, c.if-len-eq0.false)) in (
      seen heap _ lie i x own,
      c.loop-entry.invariant.kept i _ c.in-Some.block (omega arith) (seen_name heap _ lie i x own)
          (seen_block heap _ lie i x own c.in-Some.block (sym c.block.ensures ∙ c.in-Some.is)),
    )

pub loop-entry-preserved : goal.loop-entry-preserved
loop-entry-preserved c =
    let i = c.loop-entry.entry-index in
    let x = c.entry-item.result in
    let at = slice_get_read c.objects-entry-items.result.now _ i x refl c.loop-entry-test.true c.entry-item.is in
    let own = ap (λ xs. slice_get xs i) (sym c.objects-entry-items.ensures) ∙ at in
    let heap = c.args.heap.now in
    let lie = c.requires.lie (omega (arith, c.len.ensures, c.if-len-eq0.false)) in
    subst (λ b. Gives (λ n. n.owner == heap.owner) (own_names heap) (own_block heap) c.args.blocks.now b (i + 1)) (sym c.give_back.ensures)
    (given_one (λ n. n.owner == heap.owner) (own_names heap) (own_block heap) c.args.blocks.now c.loop-entry.blocks i c.loop-entry.invariant
    (seen heap _ lie i x own) c.in-Some.block (apart_rise (own_names heap) (names_rise heap)) (seen_name heap _ lie i x own)
    (seen_block heap _ lie i x own c.in-Some.block (sym c.block.ensures ∙ c.in-Some.is)) (eq-eqb heap.owner heap.owner refl))

pub returns : goal.returns
returns c =
    let heap = c.args.heap.now in
    all_given (λ n. n.owner == heap.owner) (own_names heap) (own_block heap) c.args.blocks.now c.loop-entry.blocks c.loop-entry.entry-index
    c.loop-entry.invariant (omega (arith, c.loop-entry-test.false, as_many heap, ap length c.objects-entry-items.ensures))
