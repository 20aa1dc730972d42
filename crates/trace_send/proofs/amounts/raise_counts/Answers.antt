use Rattle.std.proofs.Common.{◌+◌, ◌<◌, get_or, length, drop, sym, ap, ◌∙◌, subst, arith}
use Rattle.std.proofs.lemmas.List.{drop_all}
use Rattle.letter_kinds.specs.Counting.{raise_all}
use Rattle.known_rows.specs.Holdings.{holdings_of}
use Rattle.trace_send.specs.Can.{CanRaise}
use Rattle.trace_send.proofs.Raising.{raise_all-cons, raise_all-nil}
use Rattle.trace_send.proofs.Steps.{rest_of}
use Rattle.trace_send.proofs.amounts.raise_counts.Goals as goal

pub raise_one-requires-clause-fits : goal.raise_one-requires-clause-fits
raise_one-requires-clause-fits c = λ foreign.
    let things = c.args.things.now in
    let i = c.loop-amount.amount-index in
    let e = c.amount-item.result in
    let inside : i < length things = omega (arith, ap length c.as_slice-amount-items.ensures) in
    let rest = rest_of things i e inside (c.amount-item.is ∙ ap (λ xs. get_or xs i e) c.as_slice-amount-items.ensures) in
    let can = subst (λ xs. CanRaise c.args.me xs (holdings_of c.loop-amount.own c.loop-amount.heap foreign)) rest (c.loop-amount.invariant.can foreign) in
    can.0

pub loop-amount-preserved : goal.loop-amount-preserved
loop-amount-preserved c =
    let things = c.args.things.now in
    let i = c.loop-amount.amount-index in
    let e = c.amount-item.result in
    let inside : i < length things = omega (arith, ap length c.as_slice-amount-items.ensures) in
    let rest = rest_of things i e inside (c.amount-item.is ∙ ap (λ xs. get_or xs i e) c.as_slice-amount-items.ensures) in
    record {
      counts = λ foreign.
          let before = holdings_of c.loop-amount.own c.loop-amount.heap foreign in
          ap (raise_all c.args.me (drop (i + 1) things)) (c.raise_one.ensures.counts foreign) ∙ sym (raise_all-cons c.args.me e before (drop (i + 1) things))
          ∙ ap (λ xs. raise_all c.args.me xs before) (sym rest) ∙ c.loop-amount.invariant.counts foreign;
      can = λ foreign.
          let before = holdings_of c.loop-amount.own c.loop-amount.heap foreign in
          let can = subst (λ xs. CanRaise c.args.me xs before) rest (c.loop-amount.invariant.can foreign) in
          subst (CanRaise c.args.me (drop (i + 1) things)) (sym (c.raise_one.ensures.counts foreign)) can.1;
      owner = c.raise_one.ensures.owner ∙ c.loop-amount.invariant.owner;
      blocks = c.raise_one.ensures.blocks ∙ c.loop-amount.invariant.blocks;
    }

pub returns-clause-counts : goal.returns-clause-counts
returns-clause-counts c = λ foreign.
    let now = holdings_of c.loop-amount.own c.loop-amount.heap foreign in
    let done = drop_all c.loop-amount.amount-index c.args.things.now (omega (arith, ap length c.as_slice-amount-items.ensures)) in
    sym (raise_all-nil c.args.me now) ∙ ap (λ xs. raise_all c.args.me xs now) (sym done) ∙ c.loop-amount.invariant.counts foreign
