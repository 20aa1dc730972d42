use Rattle.std.proofs.Common.{◌≡◌, ◌+◌, ◌≤◌, true, false, not, eqb, inl, sym, ap, subst, ◌∙◌}
use Rattle.orca_names.specs.Names.{owner_of}
use Rattle.trace_send.proofs.Steps.{alike, apart, values_aside}
use Rattle.letter_kinds.specs.Load.{as_loaded}
use Rattle.foreign_table.specs.Table.{length_aside}
use Rattle.row_store.specs.Memory.{remembered}
use Rattle.row_store.specs.Told.{lies_as, told_block, told_row}
use Rattle.row_table.specs.Table.{KnownRows}
use Rattle.actor_cell.proofs.Learnt.{learn_other, learn_own, learnt_room, learnt_values}
use Rattle.actor_cell.proofs.Tells.{brought_learnt}
use Rattle.actor_cell.proofs.learning.learn_one.Goals as goal

pub returns-then-ne-clause-rows : goal.returns-then-ne-clause-rows
returns-then-ne-clause-rows c =
    let x = as_loaded (lies_as (remembered c.args.from.now) c.args.brought.now) in
    let e : not (eqb (owner_of x.0) c.args.me) ≡ true = cc in
    ap (λ (t : KnownRows). t.rows) c.learn.ensures
    ∙ learn_other c.args.me x.0 x.1 (told_block c.args.brought.now.1) c.args.known.now (apart (owner_of x.0) c.args.me e)

pub returns-then-ne-clause-told : goal.returns-then-ne-clause-told
returns-then-ne-clause-told c =
    let told = c.args.brought.now in
    brought_learnt told.0 (told_row (remembered c.args.from.now) told.0 told.1) (told_block told.1) c.args.known.now c.learn.new.self c.learn.ensures

pub returns-then-ne-clause-room : goal.returns-then-ne-clause-room
returns-then-ne-clause-room c =
    let x = as_loaded (lies_as (remembered c.args.from.now) c.args.brought.now) in
    let t = c.args.known.now in
    subst (λ (u : KnownRows). t.spare ≤ u.spare + 1) (sym c.learn.ensures) (learnt_room x.0 x.1 (told_block c.args.brought.now.1) t)

pub returns-then-ne-clause-values : goal.returns-then-ne-clause-values
returns-then-ne-clause-values c =
    let told = c.args.brought.now in
    let rows = remembered c.args.from.now in
    let t = c.args.known.now in
    subst (λ count. t.spare_values ≤ c.learn.new.self.spare_values + count) (values_aside rows told.0 told.1)
    (subst (λ (u : KnownRows). t.spare_values ≤ u.spare_values + length_aside (told_row rows told.0 told.1) (told_block told.1))
    (sym c.learn.ensures) (learnt_values told.0 (told_row rows told.0 told.1) (told_block told.1) t))

pub returns-else-ne-clause-told : goal.returns-else-ne-clause-told
returns-else-ne-clause-told c = λ n row block told. inl told

pub returns-else-ne-clause-rows : goal.returns-else-ne-clause-rows
returns-else-ne-clause-rows c =
    let x = as_loaded (lies_as (remembered c.args.from.now) c.args.brought.now) in
    let e : not (eqb (owner_of x.0) c.args.me) ≡ false = cc in
    learn_own c.args.me x.0 x.1 c.args.known.now.rows (alike (owner_of x.0) c.args.me e)
