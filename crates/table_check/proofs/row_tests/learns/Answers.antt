use Rattle.std.proofs.Common.{sym, ap, subst}
use Rattle.orca_names.specs.declared.names.Thing.TheVariants.{Obj}
use Rattle.row_table.specs.Table.{AllKnownHere, KnownRows}
use Rattle.table_check.proofs.Here.{known_here, learnt_here}
use Rattle.table_check.proofs.row_tests.learns.Goals as goal

pub returns : goal.returns
returns c = λ here.
    let before = c.reserve.new.self in
    let now = known_here before c.args.table.now (ap (λ (t : KnownRows). t.blocks) c.reserve.ensures.same) here in
    subst AllKnownHere (sym c.learn.ensures) (learnt_here (Obj c.object.result) c.of.result before now)
