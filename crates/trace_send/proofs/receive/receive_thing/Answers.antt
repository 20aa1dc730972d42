use Rattle.std.proofs.Common.{not, eqb, ◌≢◌, ◌-◌, refl, sym, ap, ◌∙◌, arith}
use Rattle.orca_names.specs.Names.{owner_of}
use Rattle.letter_kinds.specs.Load.{as_loaded}
use Rattle.row_store.specs.Memory.{remembered}
use Rattle.row_store.specs.Told.{lies_as, told_block}
use Rattle.object_heap.specs.Heap.{Heap}
use Rattle.foreign_table.specs.Table.{Table}
use Rattle.known_rows.specs.Holdings.{holdings_of}
use Rattle.trace_send.proofs.Blocks.{other_received, own_received}
use Rattle.trace_send.proofs.Steps.{apart, alike, fits-held, enough-actor, enough-object, counted-object, set-actor-at, set-object-at, receives_other, receives_own, values_aside}
use Rattle.trace_send.proofs.receive.receive_thing.Goals as goal

pub gain-requires-clause-fits : goal.gain-requires-clause-fits
gain-requires-clause-fits c =
    let other : owner_of c.args.loaded.now.0 ≢ c.args.me = apart (owner_of c.args.loaded.now.0) c.args.me (ap (λ a. not (eqb a c.args.me)) (sym c.owner.ensures) ∙ sym c.ne.ensures ∙ c.if-ne.true) in
    fits-held c.args.own.now c.args.heap.now c.args.foreign.now c.args.loaded.now.0 (c.requires.can.held other)

pub returns-then-ne-clause-counts : goal.returns-then-ne-clause-counts
returns-then-ne-clause-counts c =
    let other : owner_of c.args.loaded.now.0 ≢ c.args.me = apart (owner_of c.args.loaded.now.0) c.args.me (ap (λ a. not (eqb a c.args.me)) (sym c.owner.ensures) ∙ sym c.ne.ensures ∙ c.if-ne.true) in
    ap (holdings_of c.args.own.now c.args.heap.now) c.gain.ensures ∙ receives_other c.args.me c.args.own.now c.args.heap.now c.args.foreign.now (as_loaded (lies_as (remembered c.args.from.now) c.args.loaded.now)) (told_block c.args.loaded.now.1) other

pub lower-requires : goal.lower-requires
lower-requires c =
    let same = alike (owner_of c.args.loaded.now.0) c.args.me (ap (λ a. not (eqb a c.args.me)) (sym c.owner.ensures) ∙ sym c.ne.ensures ∙ c.if-ne.false) in
    enough-actor c.args.own.now c.args.heap.now c.args.foreign.now c.args.loaded.now.0 c.in-Actor.field-0 c.in-Actor.is (c.requires.can.own same)

pub lower-requires-in-Obj-clause-there : goal.lower-requires-in-Obj-clause-there
lower-requires-in-Obj-clause-there c =
    let same = alike (owner_of c.args.loaded.now.0) c.args.me (ap (λ a. not (eqb a c.args.me)) (sym c.owner.ensures) ∙ sym c.ne.ensures ∙ c.if-ne.false) in
    counted-object c.args.own.now c.args.heap.now c.args.foreign.now c.args.loaded.now.0 c.in-Obj.n c.in-Obj.is (same ∙ sym c.requires.mine) (c.requires.can.own same)

pub lower-requires-in-Obj-clause-enough : goal.lower-requires-in-Obj-clause-enough
lower-requires-in-Obj-clause-enough c =
    let same = alike (owner_of c.args.loaded.now.0) c.args.me (ap (λ a. not (eqb a c.args.me)) (sym c.owner.ensures) ∙ sym c.ne.ensures ∙ c.if-ne.false) in
    enough-object c.args.own.now c.args.heap.now c.args.foreign.now c.args.loaded.now.0 c.in-Obj.n c.in-Obj.is (c.requires.can.own same)

pub returns-in-Actor-clause-counts : goal.returns-in-Actor-clause-counts
returns-in-Actor-clause-counts c =
    let same = alike (owner_of c.args.loaded.now.0) c.args.me (ap (λ a. not (eqb a c.args.me)) (sym c.owner.ensures) ∙ sym c.ne.ensures ∙ c.if-ne.false) in
    ap (λ n. holdings_of n c.args.heap.now c.args.foreign.now) c.lower.ensures
    ∙ set-actor-at c.args.own.now c.args.heap.now c.args.foreign.now (λ n. n - 1) c.args.loaded.now.0 c.in-Actor.field-0 c.in-Actor.is
    ∙ receives_own c.args.me c.args.own.now c.args.heap.now c.args.foreign.now (as_loaded (lies_as (remembered c.args.from.now) c.args.loaded.now)) same

pub returns-in-Obj-clause-counts : goal.returns-in-Obj-clause-counts
returns-in-Obj-clause-counts c =
    let same = alike (owner_of c.args.loaded.now.0) c.args.me (ap (λ a. not (eqb a c.args.me)) (sym c.owner.ensures) ∙ sym c.ne.ensures ∙ c.if-ne.false) in
    ap (λ heap. holdings_of c.args.own.now heap c.args.foreign.now) c.lower-in-Obj.ensures
    ∙ set-object-at c.args.own.now c.args.heap.now c.args.foreign.now (λ n. n - 1) c.args.loaded.now.0 c.in-Obj.n c.in-Obj.is
    ∙ receives_own c.args.me c.args.own.now c.args.heap.now c.args.foreign.now (as_loaded (lies_as (remembered c.args.from.now) c.args.loaded.now)) same

pub returns-then-ne-clause-blocks : goal.returns-then-ne-clause-blocks
returns-then-ne-clause-blocks c =
    let other : owner_of c.args.loaded.now.0 ≢ c.args.me = apart (owner_of c.args.loaded.now.0) c.args.me (ap (λ a. not (eqb a c.args.me)) (sym c.owner.ensures) ∙ sym c.ne.ensures ∙ c.if-ne.true) in
    (refl, ap (λ (t : Table). t.blocks) c.gain.ensures ∙ other_received c.args.me (lies_as (remembered c.args.from.now) c.args.loaded.now) c.args.foreign.now.blocks other)

pub returns-then-ne-clause-values : goal.returns-then-ne-clause-values
returns-then-ne-clause-values c =
    let told = c.args.loaded.now in
    let aside = values_aside (remembered c.args.from.now) told.0 told.1 in
    omega (arith, aside, ap (λ (t : Table). t.spare_values) c.gain.ensures)

pub returns-in-Actor-clause-blocks : goal.returns-in-Actor-clause-blocks
returns-in-Actor-clause-blocks c =
    let same = alike (owner_of c.args.loaded.now.0) c.args.me (ap (λ a. not (eqb a c.args.me)) (sym c.owner.ensures) ∙ sym c.ne.ensures ∙ c.if-ne.false) in
    (refl, own_received c.args.me (lies_as (remembered c.args.from.now) c.args.loaded.now) c.args.foreign.now.blocks same)

pub returns-in-Obj-clause-blocks : goal.returns-in-Obj-clause-blocks
returns-in-Obj-clause-blocks c =
    let same = alike (owner_of c.args.loaded.now.0) c.args.me (ap (λ a. not (eqb a c.args.me)) (sym c.owner.ensures) ∙ sym c.ne.ensures ∙ c.if-ne.false) in
    (ap (λ (h : Heap). h.blocks) c.lower-in-Obj.ensures, own_received c.args.me (lies_as (remembered c.args.from.now) c.args.loaded.now) c.args.foreign.now.blocks same)
