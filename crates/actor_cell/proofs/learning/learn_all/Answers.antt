use Rattle.std.proofs.Common.{◌+◌, drop, sym, ap, ◌∙◌, arith}
use Rattle.row_store.specs.Memory.{remembered}
use Rattle.row_store.specs.Told.{lies_as}
use Rattle.letter_kinds.specs.Load.{as_load, as_loaded}
use Rattle.letter_kinds.proofs.Loads.{long_load}
use Rattle.machine_rules.specs.Take.{learn}
use Rattle.actor_cell.proofs.Learnt.{learn-cons, learn-nil}
use Rattle.std.proofs.lemmas.List.{drop_all}
use Rattle.trace_send.proofs.Steps.{seen_known, seen_rest, values_aside, values_rest, within_load}
use Rattle.actor_cell.proofs.Tells.{brought_next}
use Rattle.actor_cell.proofs.learning.learn_all.Goals as goal

pub learn_one-requires-clause-room : goal.learn_one-requires-clause-room
learn_one-requires-clause-room c =
    let inside = within_load (remembered c.parts.result.1.now) c.parts.result.0.now c.args.rows.now c.parts.ensures.load c.loop-brought.brought-index c.brought-item.result c.loop-brought-test.true c.brought-item.is in
    omega (arith, inside, c.loop-brought.invariant.room)

pub learn_one-requires-clause-told : goal.learn_one-requires-clause-told
learn_one-requires-clause-told c =
    seen_known (remembered c.parts.result.1.now) c.parts.result.0.now c.args.rows.now c.parts.ensures.load c.loop-brought.brought-index c.brought-item.result c.loop-brought-test.true c.brought-item.is c.parts.ensures.known

pub learn_one-requires-clause-values : goal.learn_one-requires-clause-values
learn_one-requires-clause-values c =
    let rows = c.args.rows.now in
    let memory = remembered c.parts.result.1.now in
    let i = c.loop-brought.brought-index in
    let told = c.brought-item.result in
    let rest = seen_rest memory c.parts.result.0.now rows c.parts.ensures.load i told c.loop-brought-test.true c.brought-item.is in
    omega (arith, values_aside memory told.0 told.1, values_rest rows i (lies_as memory told) rest, c.loop-brought.invariant.values)

pub loop-brought-preserved : goal.loop-brought-preserved
loop-brought-preserved c =
    let rows = c.args.rows.now in
    let memory = remembered c.parts.result.1.now in
    let me = c.args.me in
    let i = c.loop-brought.brought-index in
    let told = c.brought-item.result in
    let e = lies_as memory told in
    let before = c.loop-brought.known.rows in
    let rest = seen_rest memory c.parts.result.0.now rows c.parts.ensures.load i told c.loop-brought-test.true c.brought-item.is in
    record {
      rows = ap (learn me (as_load (drop (i + 1) rows))) c.learn_one.ensures.rows ∙ learn-cons me (as_loaded e) (as_load (drop (i + 1) rows)) before
          ∙ ap (λ xs. learn me (as_load xs) before) (sym rest) ∙ c.loop-brought.invariant.rows;
      told = brought_next rows i e c.args.known.now c.loop-brought.known c.learn_one.new.known rest c.loop-brought.invariant.told c.learn_one.ensures.told;
      room = omega (arith, c.learn_one.ensures.room, c.loop-brought.invariant.room);
      values = omega (arith, values_aside memory told.0 told.1, values_rest rows i e rest, c.learn_one.ensures.values, c.loop-brought.invariant.values);
    }

pub returns-clause-rows : goal.returns-clause-rows
returns-clause-rows c =
    let now = c.loop-brought.known.rows in
    let long = long_load (remembered c.parts.result.1.now) c.parts.result.0.now c.args.rows.now c.parts.ensures.load in
    let done = drop_all c.loop-brought.brought-index c.args.rows.now (omega (arith, long, c.loop-brought-test.false)) in
    sym (learn-nil c.args.me now) ∙ ap (λ xs. learn c.args.me (as_load xs) now) (sym done) ∙ c.loop-brought.invariant.rows
