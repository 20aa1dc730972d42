use Rattle.std.proofs.Common.{◌+◌, drop, sym, ap, ◌∙◌, subst, arith}
use Rattle.std.proofs.lemmas.List.{drop_all}
use Rattle.row_store.specs.Memory.{remembered}
use Rattle.row_store.specs.Told.{lies_as}
use Rattle.letter_kinds.specs.Load.{as_load, as_loaded}
use Rattle.letter_kinds.specs.Counting.{send}
use Rattle.letter_kinds.proofs.Loads.{long_load}
use Rattle.known_rows.specs.Holdings.{holdings_of}
use Rattle.trace_send.specs.Can.{CanSend}
use Rattle.trace_send.proofs.Steps.{can_send_bare, seen_rest, send-cons, send-nil}
use Rattle.trace_send.proofs.send.send_trace.Goals as goal

pub send_thing-requires-clause-can : goal.send_thing-requires-clause-can
send_thing-requires-clause-can c =
    let load = c.args.load.now in
    let rows = remembered c.parts.result.1.now in
    let i = c.loop-loaded.loaded-index in
    let told = c.loaded-item.result in
    let e = lies_as rows told in
    let rest = seen_rest rows c.parts.result.0.now load c.parts.ensures.load i told c.loop-loaded-test.true c.loaded-item.is in
    let before = holdings_of c.loop-loaded.own c.loop-loaded.heap c.loop-loaded.foreign in
    let can = subst (λ xs. CanSend c.args.me (as_load xs) before) rest c.loop-loaded.invariant.can in
    can_send_bare c.args.me (as_loaded e) before can.0

pub loop-loaded-preserved : goal.loop-loaded-preserved
loop-loaded-preserved c =
    let load = c.args.load.now in
    let rows = remembered c.parts.result.1.now in
    let i = c.loop-loaded.loaded-index in
    let told = c.loaded-item.result in
    let e = lies_as rows told in
    let rest = seen_rest rows c.parts.result.0.now load c.parts.ensures.load i told c.loop-loaded-test.true c.loaded-item.is in
    let before = holdings_of c.loop-loaded.own c.loop-loaded.heap c.loop-loaded.foreign in
    let can = subst (λ xs. CanSend c.args.me (as_load xs) before) rest c.loop-loaded.invariant.can in
    let counts = c.send_thing.ensures.counts e.1.row in
    record {
      counts = ap (send c.args.me (as_load (drop (i + 1) load))) counts ∙ sym (send-cons c.args.me (as_loaded e) (as_load (drop (i + 1) load)) before) ∙ ap (λ xs. send c.args.me (as_load xs) before) (sym rest) ∙ c.loop-loaded.invariant.counts;
      can = subst (CanSend c.args.me (as_load (drop (i + 1) load))) (sym counts) can.1;
      owner = c.send_thing.ensures.heap.0 ∙ c.loop-loaded.invariant.owner;
      spare = c.send_thing.ensures.heap.1 ∙ c.loop-loaded.invariant.spare;
      own_blocks = c.send_thing.ensures.blocks.0 ∙ c.loop-loaded.invariant.own_blocks;
      held_blocks = c.send_thing.ensures.blocks.1 ∙ c.loop-loaded.invariant.held_blocks;
      room = omega (arith, c.send_thing.ensures.room, c.loop-loaded.invariant.room);
    }

pub returns-clause-counts : goal.returns-clause-counts
returns-clause-counts c =
    let load = c.args.load.now in
    let now = holdings_of c.loop-loaded.own c.loop-loaded.heap c.loop-loaded.foreign in
    let long = long_load (remembered c.parts.result.1.now) c.parts.result.0.now load c.parts.ensures.load in
    let done = drop_all c.loop-loaded.loaded-index load (omega (arith, long, c.loop-loaded-test.false)) in
    sym (send-nil c.args.me now) ∙ ap (λ xs. send c.args.me (as_load xs) now) (sym done) ∙ c.loop-loaded.invariant.counts
