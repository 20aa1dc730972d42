use Rattle.std.proofs.Common.{◌≡◌, ◌≢◌, None, not, eqb, sym, ap, subst, ◌∙◌, arith}
use Rattle.orca_names.specs.Names.{owner_of}
use Rattle.known_rows.specs.Holdings.{holdings_of}
use Rattle.letter_kinds.specs.Load.{as_load}
use Rattle.row_store.specs.Told.{told_block}
use Rattle.trace_send.specs.Can.{CanSend}
use Rattle.trace_send.proofs.Steps.{apart, held-is}
use Rattle.table_check.proofs.Here.{no_block}
use Rattle.table_check.proofs.Loads.{none_asked}
use Rattle.table_check.proofs.trace_tests.send.Goals as goal

pub load_with-requires : goal.load_with-requires
load_with-requires c =
    let told = c.args.told.now in
    let none : told_block told ≡ None =
    sym c.block.ensures ∙ no_block c.block.result (sym c.is_some.ensures ∙ c.if-is_some.false) in
    none_asked _ c.args.thing.now told none

pub send_trace-requires-clause-can : goal.send_trace-requires-clause-can
send_trace-requires-clause-can c =
    let me = c.owner-me.result in
    let thing = c.args.thing.now in
    let foreign = c.args.foreign.now in
    let own = c.new-own.result in
    let other : owner_of thing ≢ me = apart (owner_of thing) me
    (ap not (ap (λ a. eqb a me) (sym c.owner.ensures) ∙ sym c.eq.ensures ∙ c.if-eq.false)) in
    let held = held-is own c.args.heap.now foreign thing ∙ sym c.count.ensures.count in
    subst (λ load. CanSend me (as_load load) (holdings_of own c.args.heap.now foreign))
    (sym c.in-Ok.ensures) (
      record {
        there = λ same. absurd (other same);
        own = λ same. absurd (other same);
        held = λ _. omega (arith, held, c.if-count-eq0.false);
      },
      tt,
    )
