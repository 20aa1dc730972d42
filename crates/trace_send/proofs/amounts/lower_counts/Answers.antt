use Rattle.std.proofs.Common.{◌+◌, ◌<◌, get_or, length, drop, sym, ap, ◌∙◌, subst, arith}
use Rattle.std.proofs.lemmas.List.{drop_all}
use Rattle.letter_kinds.specs.Counting.{lower_all}
use Rattle.known_rows.specs.Holdings.{holdings_of}
use Rattle.trace_send.specs.Can.{CanLower}
use Rattle.trace_send.proofs.Raising.{lower_all-cons, lower_all-nil}
use Rattle.trace_send.proofs.Steps.{rest_of}
use Rattle.trace_send.proofs.amounts.lower_counts.Goals as goal

pub lower_one-requires-clause-enough : goal.lower_one-requires-clause-enough
lower_one-requires-clause-enough c = λ foreign.
    let things = c.args.things.now in
    let i = c.loop-amount.amount-index in
    let e = c.amount-item.result in
    let inside : i < length things = omega (arith, ap length c.as_slice-amount-items.ensures) in
    let rest = rest_of things i e inside (c.amount-item.is ∙ ap (λ xs. get_or xs i e) c.as_slice-amount-items.ensures) in
    let can = subst (λ xs. CanLower c.args.me xs (holdings_of c.loop-amount.own c.loop-amount.heap foreign)) rest (c.loop-amount.invariant.can foreign) in
    can.0

pub loop-amount-preserved : goal.loop-amount-preserved
loop-amount-preserved c =
    let things = c.args.things.now in
    let i = c.loop-amount.amount-index in
    let e = c.amount-item.result in
    let inside : i < length things = omega (arith, ap length c.as_slice-amount-items.ensures) in
    let rest = rest_of things i e inside (c.amount-item.is ∙ ap (λ xs. get_or xs i e) c.as_slice-amount-items.ensures) in
    record {
      counts = λ foreign.
          let before = holdings_of c.loop-amount.own c.loop-amount.heap foreign in
          ap (lower_all c.args.me (drop (i + 1) things)) (c.lower_one.ensures.counts foreign) ∙ sym (lower_all-cons c.args.me e before (drop (i + 1) things))
          ∙ ap (λ xs. lower_all c.args.me xs before) (sym rest) ∙ c.loop-amount.invariant.counts foreign;
      can = λ foreign.
          let before = holdings_of c.loop-amount.own c.loop-amount.heap foreign in
          let can = subst (λ xs. CanLower c.args.me xs before) rest (c.loop-amount.invariant.can foreign) in
          subst (CanLower c.args.me (drop (i + 1) things)) (sym (c.lower_one.ensures.counts foreign)) can.1;
      owner = c.lower_one.ensures.owner ∙ c.loop-amount.invariant.owner;
      blocks = c.lower_one.ensures.blocks ∙ c.loop-amount.invariant.blocks;
    }

pub returns-clause-counts : goal.returns-clause-counts
returns-clause-counts c = λ foreign.
    let now = holdings_of c.loop-amount.own c.loop-amount.heap foreign in
    let done = drop_all c.loop-amount.amount-index c.args.things.now (omega (arith, ap length c.as_slice-amount-items.ensures)) in
    sym (lower_all-nil c.args.me now) ∙ ap (λ xs. lower_all c.args.me xs now) (sym done) ∙ c.loop-amount.invariant.counts foreign
