use Rattle.std.proofs.Common.{◌+◌, drop, sym, ap, ◌∙◌, subst, arith}
use Rattle.std.proofs.lemmas.List.{drop_all}
use Rattle.row_store.specs.Memory.{remembered}
use Rattle.row_store.specs.Told.{lies_as}
use Rattle.letter_kinds.specs.Load.{as_load, as_loaded}
use Rattle.letter_kinds.specs.Counting.{receive}
use Rattle.letter_kinds.proofs.Loads.{long_load}
use Rattle.known_rows.specs.Holdings.{holdings_of}
use Rattle.trace_send.specs.Blocks.{blocks_received}
use Rattle.trace_send.specs.Can.{CanReceive}
use Rattle.trace_send.proofs.Blocks.{blocks_received-cons, blocks_received-nil}
use Rattle.trace_send.proofs.Steps.{receive-cons, receive-nil, seen_known, seen_rest, values_aside, values_rest, within_load}
use Rattle.trace_send.proofs.receive.receive_trace.Goals as goal

pub receive_thing-requires-clause-told : goal.receive_thing-requires-clause-told
receive_thing-requires-clause-told c =
    let rows = remembered c.parts.result.1.now in
    seen_known rows c.parts.result.0.now c.args.load.now c.parts.ensures.load c.loop-loaded.loaded-index c.loaded-item.result c.loop-loaded-test.true c.loaded-item.is c.parts.ensures.known

pub receive_thing-requires-clause-can : goal.receive_thing-requires-clause-can
receive_thing-requires-clause-can c =
    let rows = remembered c.parts.result.1.now in
    let rest = seen_rest rows c.parts.result.0.now c.args.load.now c.parts.ensures.load c.loop-loaded.loaded-index c.loaded-item.result c.loop-loaded-test.true c.loaded-item.is in
    let before = holdings_of c.loop-loaded.own c.loop-loaded.heap c.loop-loaded.foreign in
    let can = subst (λ xs. CanReceive c.args.me (as_load xs) before) rest c.loop-loaded.invariant.can in
    can.0

pub receive_thing-requires-clause-room : goal.receive_thing-requires-clause-room
receive_thing-requires-clause-room c =
    let rows = remembered c.parts.result.1.now in
    let inside = within_load rows c.parts.result.0.now c.args.load.now c.parts.ensures.load c.loop-loaded.loaded-index c.loaded-item.result c.loop-loaded-test.true c.loaded-item.is in
    omega (arith, inside, c.loop-loaded.invariant.room, c.requires.room)

pub receive_thing-requires-clause-values : goal.receive_thing-requires-clause-values
receive_thing-requires-clause-values c =
    let load = c.args.load.now in
    let rows = remembered c.parts.result.1.now in
    let i = c.loop-loaded.loaded-index in
    let told = c.loaded-item.result in
    let rest = seen_rest rows c.parts.result.0.now load c.parts.ensures.load i told c.loop-loaded-test.true c.loaded-item.is in
    omega (arith, values_aside rows told.0 told.1, values_rest load i (lies_as rows told) rest, c.loop-loaded.invariant.values, c.requires.values)

pub loop-loaded-preserved : goal.loop-loaded-preserved
loop-loaded-preserved c =
    let load = c.args.load.now in
    let rows = remembered c.parts.result.1.now in
    let i = c.loop-loaded.loaded-index in
    let told = c.loaded-item.result in
    let e = lies_as rows told in
    let rest = seen_rest rows c.parts.result.0.now load c.parts.ensures.load i told c.loop-loaded-test.true c.loaded-item.is in
    let before = holdings_of c.loop-loaded.own c.loop-loaded.heap c.loop-loaded.foreign in
    let can = subst (λ xs. CanReceive c.args.me (as_load xs) before) rest c.loop-loaded.invariant.can in
    record {
      counts = ap (receive c.args.me (as_load (drop (i + 1) load))) c.receive_thing.ensures.counts ∙ sym (receive-cons c.args.me (as_loaded e) (as_load (drop (i + 1) load)) before) ∙ ap (λ xs. receive c.args.me (as_load xs) before) (sym rest) ∙ c.loop-loaded.invariant.counts;
      can = subst (CanReceive c.args.me (as_load (drop (i + 1) load))) (sym c.receive_thing.ensures.counts) can.1;
      owner = c.receive_thing.ensures.heap.0 ∙ c.loop-loaded.invariant.owner;
      spare = c.receive_thing.ensures.heap.1 ∙ c.loop-loaded.invariant.spare;
      blocks = c.receive_thing.ensures.blocks.0 ∙ c.loop-loaded.invariant.blocks;
      held = ap (blocks_received c.args.me (drop (i + 1) load)) c.receive_thing.ensures.blocks.1
          ∙ sym (blocks_received-cons c.args.me e (drop (i + 1) load) c.loop-loaded.foreign.blocks)
          ∙ ap (λ xs. blocks_received c.args.me xs c.loop-loaded.foreign.blocks) (sym rest) ∙ c.loop-loaded.invariant.held;
      room = omega (arith, c.receive_thing.ensures.room, c.loop-loaded.invariant.room);
      values = omega (arith, values_aside rows told.0 told.1, values_rest load i e rest, c.receive_thing.ensures.values, c.loop-loaded.invariant.values);
    }

pub returns-clause-counts : goal.returns-clause-counts
returns-clause-counts c =
    let load = c.args.load.now in
    let now = holdings_of c.loop-loaded.own c.loop-loaded.heap c.loop-loaded.foreign in
    let long = long_load (remembered c.parts.result.1.now) c.parts.result.0.now load c.parts.ensures.load in
    let done = drop_all c.loop-loaded.loaded-index load (omega (arith, long, c.loop-loaded-test.false)) in
    sym (receive-nil c.args.me now) ∙ ap (λ xs. receive c.args.me (as_load xs) now) (sym done) ∙ c.loop-loaded.invariant.counts

pub returns-clause-blocks : goal.returns-clause-blocks
returns-clause-blocks c =
    let load = c.args.load.now in
    let now = c.loop-loaded.foreign.blocks in
    let long = long_load (remembered c.parts.result.1.now) c.parts.result.0.now load c.parts.ensures.load in
    let done = drop_all c.loop-loaded.loaded-index load (omega (arith, long, c.loop-loaded-test.false)) in
    (c.loop-loaded.invariant.blocks, sym (blocks_received-nil c.args.me now) ∙ ap (λ xs. blocks_received c.args.me xs now) (sym done) ∙ c.loop-loaded.invariant.held)
