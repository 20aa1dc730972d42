use Rattle.std.proofs.Common.{not, eqb, ◌≢◌, ◌+◌, refl, sym, ap, ◌∙◌}
use Rattle.orca_names.specs.Names.{owner_of}
use Rattle.object_heap.specs.Heap.{Heap}
use Rattle.foreign_table.specs.Table.{Table}
use Rattle.known_rows.specs.Holdings.{holdings_of}
use Rattle.trace_send.proofs.Steps.{apart, alike, enough-held, there-held, fits-actor, fits-object, there-object, set-actor-at, set-object-at, sends_other, sends_own}
use Rattle.trace_send.proofs.send.send_thing.Goals as goal

pub spend-requires-clause-there : goal.spend-requires-clause-there
spend-requires-clause-there c =
    let other : owner_of c.args.thing.now ≢ c.args.me = apart (owner_of c.args.thing.now) c.args.me (ap (λ a. not (eqb a c.args.me)) (sym c.owner.ensures) ∙ sym c.ne.ensures ∙ c.if-ne.true) in
    there-held c.args.own.now c.args.heap.now c.args.foreign.now c.args.thing.now (c.requires.can.held other)

pub spend-requires-clause-enough : goal.spend-requires-clause-enough
spend-requires-clause-enough c =
    let other : owner_of c.args.thing.now ≢ c.args.me = apart (owner_of c.args.thing.now) c.args.me (ap (λ a. not (eqb a c.args.me)) (sym c.owner.ensures) ∙ sym c.ne.ensures ∙ c.if-ne.true) in
    enough-held c.args.own.now c.args.heap.now c.args.foreign.now c.args.thing.now (c.requires.can.held other)

pub returns-then-ne-clause-counts : goal.returns-then-ne-clause-counts
returns-then-ne-clause-counts c = λ row.
    let other : owner_of c.args.thing.now ≢ c.args.me = apart (owner_of c.args.thing.now) c.args.me (ap (λ a. not (eqb a c.args.me)) (sym c.owner.ensures) ∙ sym c.ne.ensures ∙ c.if-ne.true) in
    ap (holdings_of c.args.own.now c.args.heap.now) c.spend.ensures ∙ sends_other c.args.me c.args.own.now c.args.heap.now c.args.foreign.now (c.args.thing.now, row) other

pub raise-requires : goal.raise-requires
raise-requires c =
    let same = alike (owner_of c.args.thing.now) c.args.me (ap (λ a. not (eqb a c.args.me)) (sym c.owner.ensures) ∙ sym c.ne.ensures ∙ c.if-ne.false) in
    fits-actor c.args.own.now c.args.heap.now c.args.foreign.now c.args.thing.now c.in-Actor.field-0 c.in-Actor.is (c.requires.can.own same)

pub raise-requires-in-Obj-clause-there : goal.raise-requires-in-Obj-clause-there
raise-requires-in-Obj-clause-there c =
    let same = alike (owner_of c.args.thing.now) c.args.me (ap (λ a. not (eqb a c.args.me)) (sym c.owner.ensures) ∙ sym c.ne.ensures ∙ c.if-ne.false) in
    there-object c.args.own.now c.args.heap.now c.args.foreign.now c.args.thing.now c.in-Obj.n c.in-Obj.is (same ∙ sym c.requires.mine) (c.requires.can.there same)

pub raise-requires-in-Obj-clause-fits : goal.raise-requires-in-Obj-clause-fits
raise-requires-in-Obj-clause-fits c =
    let same = alike (owner_of c.args.thing.now) c.args.me (ap (λ a. not (eqb a c.args.me)) (sym c.owner.ensures) ∙ sym c.ne.ensures ∙ c.if-ne.false) in
    fits-object c.args.own.now c.args.heap.now c.args.foreign.now c.args.thing.now c.in-Obj.n c.in-Obj.is (c.requires.can.own same)

pub returns-in-Actor-clause-counts : goal.returns-in-Actor-clause-counts
returns-in-Actor-clause-counts c = λ row.
    let same = alike (owner_of c.args.thing.now) c.args.me (ap (λ a. not (eqb a c.args.me)) (sym c.owner.ensures) ∙ sym c.ne.ensures ∙ c.if-ne.false) in
    ap (λ n. holdings_of n c.args.heap.now c.args.foreign.now) c.raise.ensures
    ∙ set-actor-at c.args.own.now c.args.heap.now c.args.foreign.now (λ n. n + 1) c.args.thing.now c.in-Actor.field-0 c.in-Actor.is
    ∙ sends_own c.args.me c.args.own.now c.args.heap.now c.args.foreign.now (c.args.thing.now, row) same

pub returns-in-Obj-clause-counts : goal.returns-in-Obj-clause-counts
returns-in-Obj-clause-counts c = λ row.
    let same = alike (owner_of c.args.thing.now) c.args.me (ap (λ a. not (eqb a c.args.me)) (sym c.owner.ensures) ∙ sym c.ne.ensures ∙ c.if-ne.false) in
    ap (λ heap. holdings_of c.args.own.now heap c.args.foreign.now) c.raise-in-Obj.ensures
    ∙ set-object-at c.args.own.now c.args.heap.now c.args.foreign.now (λ n. n + 1) c.args.thing.now c.in-Obj.n c.in-Obj.is
    ∙ sends_own c.args.me c.args.own.now c.args.heap.now c.args.foreign.now (c.args.thing.now, row) same

pub returns-then-ne-clause-blocks : goal.returns-then-ne-clause-blocks
returns-then-ne-clause-blocks c = (refl, ap (λ (t : Table). t.blocks) c.spend.ensures)

pub returns-in-Obj-clause-blocks : goal.returns-in-Obj-clause-blocks
returns-in-Obj-clause-blocks c = (ap (λ (h : Heap). h.blocks) c.raise-in-Obj.ensures, refl)
