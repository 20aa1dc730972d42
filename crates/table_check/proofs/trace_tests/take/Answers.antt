use Rattle.std.proofs.Common.{◌≢◌, not, eqb, sym, ap, subst, ◌∙◌, arith}
use Rattle.orca_names.specs.Names.{owner_of}
use Rattle.known_rows.specs.Holdings.{holdings_of}
use Rattle.letter_kinds.specs.Load.{as_load}
use Rattle.row_store.specs.Memory.{remembered}
use Rattle.trace_send.specs.Can.{CanReceive}
use Rattle.trace_send.specs.Room.{values_of}
use Rattle.trace_send.proofs.Steps.{apart, held-is}
use Rattle.table_check.proofs.Loads.{one_aside}
use Rattle.table_check.proofs.trace_tests.take.Goals as goal

pub receive_trace-requires-clause-can : goal.receive_trace-requires-clause-can
receive_trace-requires-clause-can c =
    let me = c.owner-me.result in
    let thing = c.args.thing.now in
    let foreign = c.reserves_one.new.table in
    let own = c.new-own.result in
    let other : owner_of thing ≢ me = apart (owner_of thing) me
    (ap not (ap (λ a. eqb a me) (sym c.owner.ensures) ∙ sym c.eq.ensures ∙ c.if-eq.false)) in
    let held = held-is own c.args.heap.now foreign thing ∙ sym c.count.ensures.count in
    subst (λ load. CanReceive me (as_load load) (holdings_of own c.args.heap.now foreign))
    (sym c.in-Ok.ensures) (
      record {
        own = λ same. absurd (other same);
        held = λ _. omega (arith, held, c.if-count-gt1000.false);
      },
      tt,
    )

pub receive_trace-requires-clause-values : goal.receive_trace-requires-clause-values
receive_trace-requires-clause-values c =
    let its = one_aside (remembered c.args.memory) c.args.thing.now c.args.told.now in
    let all = ap values_of c.in-Ok.ensures in
    omega (arith, its, all, c.reserves_one.ensures.values c.if-not-reserves_one.false)
