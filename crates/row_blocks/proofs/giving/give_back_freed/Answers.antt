use Rattle.std.proofs.Common.{◌+◌, arith, refl, subst, sym}
use Rattle.std.proofs.lemmas.Option.{slice_get_read}
use Rattle.object_heap.specs.Heap.{own_block}
use Rattle.row_blocks.specs.Blocks.{is_one_of}
use Rattle.row_blocks.proofs.GivenBack.{Gives, all_given, apart_rise, given_one, nothing_given}
use Rattle.row_blocks.proofs.Owning.{at_one, begin, given_there, lent_lies, one_at}
use Rattle.row_blocks.proofs.giving.give_back_freed.Goals as goal

pub returns-then-len-eq0 : goal.returns-then-len-eq0
returns-then-len-eq0 c = nothing_given (is_one_of c.args.gone.now) c.args.blocks.now (omega (arith, c.len.ensures))

pub loop-n-init : goal.loop-n-init
loop-n-init c =
    begin (is_one_of c.args.gone.now) c.args.gone.now c.args.heap.now c.args.blocks.now
    (c.requires.lie (omega (arith, c.len.ensures, c.if-len-eq0.false)))
    (λ j n at. given_there c.args.heap.now n (c.requires.there j n at))
    (λ k n at goes. one_at c.args.gone.now n goes)

pub unreachable-requires : goal.unreachable-requires
unreachable-requires c =
    let i = c.loop-n.n-index in
    let at = slice_get_read c.args.gone.now _ i c.n-item.result refl c.loop-n-test.true c.n-item.is in
    lent_lies c.args.heap.now c.args.blocks.now c.n-item.result (c.requires.lie (omega (arith, c.len.ensures, c.if-len-eq0.false)))
    (c.requires.there i c.n-item.result at) c.in-Nothing.ensures.1

pub unreachable-requires-in-Here : goal.unreachable-requires-in-Here
unreachable-requires-in-Here c =
    let i = c.loop-n.n-index in
    let at = slice_get_read c.args.gone.now _ i c.n-item.result refl c.loop-n-test.true c.n-item.is in
    lent_lies c.args.heap.now c.args.blocks.now c.n-item.result (c.requires.lie (omega (arith, c.len.ensures, c.if-len-eq0.false)))
    (c.requires.there i c.n-item.result at) c.in-Here.ensures.1

pub give_back-requires : goal.give_back-requires
give_back-requires c =
    let i = c.loop-n.n-index in
    let at = slice_get_read c.args.gone.now _ i c.n-item.result refl c.loop-n-test.true c.n-item.is in
    (c.n-item.result, c.loop-n.invariant.kept i c.n-item.result c.in-In.block (omega arith) at c.in-In.ensures.1)

pub loop-n-preserved : goal.loop-n-preserved
loop-n-preserved c =
    let gone = c.args.gone.now in
    let i = c.loop-n.n-index in
    let at = slice_get_read gone _ i c.n-item.result refl c.loop-n-test.true c.n-item.is in
    subst (λ b. Gives (is_one_of gone) gone (own_block c.args.heap.now) c.args.blocks.now b (i + 1)) (sym c.give_back.ensures)
    (given_one (is_one_of gone) gone (own_block c.args.heap.now) c.args.blocks.now _ i c.loop-n.invariant
    c.n-item.result c.in-In.block (apart_rise gone c.requires.rising) at c.in-In.ensures.1 (at_one gone i c.n-item.result at))

pub returns : goal.returns
returns c =
    all_given (is_one_of c.args.gone.now) c.args.gone.now (own_block c.args.heap.now) c.args.blocks.now c.loop-n.blocks c.loop-n.n-index
    c.loop-n.invariant (omega (arith, c.loop-n-test.false))
