use Rattle.std.proofs.Common.{◌≡◌, ◌-◌, true, false, not, eqb, sym, ap, ◌∙◌, arith}
use Rattle.orca_names.specs.Names.{owner_of}
use Rattle.object_heap.specs.Heap.{Heap}
use Rattle.known_rows.specs.Holdings.{holdings_of}
use Rattle.trace_send.proofs.Steps.{alike, apart, set-actor-at, set-object-at}
use Rattle.trace_send.proofs.Raising.{no_table, own_at_actor, own_at_object, lower_other, lower_own}
use Rattle.trace_send.proofs.amounts.lower_one.Goals as goal

pub returns-then-ne-clause-counts : goal.returns-then-ne-clause-counts
returns-then-ne-clause-counts c = λ foreign.
    let e : not (eqb (owner_of c.args.amount.now.0) c.args.me) ≡ true = cc in
    lower_other c.args.me c.args.amount.now (holdings_of c.args.own.now c.args.heap.now foreign) (apart (owner_of c.args.amount.now.0) c.args.me e)

pub lower-requires : goal.lower-requires
lower-requires c =
    let e : not (eqb (owner_of c.args.amount.now.0) c.args.me) ≡ false = cc in
    let can = c.requires.enough no_table (alike (owner_of c.args.amount.now.0) c.args.me e) in
    let own = own_at_actor c.args.own.now c.args.heap.now no_table c.args.amount.now.0 c.in-Actor.field-0 c.in-Actor.is in
    omega arith

pub lower_object-requires-clause-mine : goal.lower_object-requires-clause-mine
lower_object-requires-clause-mine c =
    let e : not (eqb (owner_of c.args.amount.now.0) c.args.me) ≡ false = cc in
    sym (ap owner_of c.in-Obj.is) ∙ alike (owner_of c.args.amount.now.0) c.args.me e ∙ sym c.requires.mine

pub lower_object-requires-clause-enough : goal.lower_object-requires-clause-enough
lower_object-requires-clause-enough c =
    let e : not (eqb (owner_of c.args.amount.now.0) c.args.me) ≡ false = cc in
    let can = c.requires.enough no_table (alike (owner_of c.args.amount.now.0) c.args.me e) in
    let own = own_at_object c.args.own.now c.args.heap.now no_table c.args.amount.now.0 c.in-Obj.n c.in-Obj.is in
    omega arith

pub returns-in-Actor-clause-counts : goal.returns-in-Actor-clause-counts
returns-in-Actor-clause-counts c = λ foreign.
    let amount = c.args.amount.now in
    let e : not (eqb (owner_of amount.0) c.args.me) ≡ false = cc in
    ap (λ n. holdings_of n c.args.heap.now foreign) c.lower.ensures
    ∙ set-actor-at c.args.own.now c.args.heap.now foreign (λ n. n - amount.1) amount.0 c.in-Actor.field-0 c.in-Actor.is
    ∙ lower_own c.args.me amount (holdings_of c.args.own.now c.args.heap.now foreign) (alike (owner_of amount.0) c.args.me e)

pub returns-in-Obj-clause-counts : goal.returns-in-Obj-clause-counts
returns-in-Obj-clause-counts c = λ foreign.
    let amount = c.args.amount.now in
    let e : not (eqb (owner_of amount.0) c.args.me) ≡ false = cc in
    ap (λ heap. holdings_of c.args.own.now heap foreign) c.lower_object.ensures
    ∙ set-object-at c.args.own.now c.args.heap.now foreign (λ n. n - amount.1) amount.0 c.in-Obj.n c.in-Obj.is
    ∙ lower_own c.args.me amount (holdings_of c.args.own.now c.args.heap.now foreign) (alike (owner_of amount.0) c.args.me e)

pub returns-in-Obj-clause-blocks : goal.returns-in-Obj-clause-blocks
returns-in-Obj-clause-blocks c = ap (λ (h : Heap). h.blocks) c.lower_object.ensures
