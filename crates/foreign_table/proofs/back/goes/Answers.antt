use Rattle.std.proofs.Common.{sym, ◌∙◌, subst, arith}
use Rattle.std.specs.Prelude.{T}
use Rattle.std.specs.FinMap.Entries.{is_sorted}
use Rattle.orca_names.specs.Names.{thing_cmp}
use Rattle.foreign_table.proofs.BackLemmas.{group_sorted, goes_there, goes_nowhere}
use Rattle.foreign_table.proofs.back.goes.Goals as goal

pub is_among-requires : goal.is_among-requires
is_among-requires c = subst (λ ts. T (is_sorted thing_cmp ts)) (sym c.as_slice.ensures) (group_sorted c.args.back.now c.in-Ok.i c.index-back-i.result (omega (arith, c.in-Ok.ensures)) c.requires.things)

pub returns-in-Ok : goal.returns-in-Ok
returns-in-Ok c = c.is_among.ensures ∙ goes_there c.args.back.now c.args.thing c.owner.result c.in-Ok.i c.index-back-i.result c.as_slice.result.now c.owner.ensures c.in-Ok.ensures c.as_slice.ensures

pub returns-in-Err : goal.returns-in-Err
returns-in-Err c = goes_nowhere c.args.back.now c.args.thing c.owner.result c.in-Err.field-0 c.owner.ensures c.in-Err.ensures
