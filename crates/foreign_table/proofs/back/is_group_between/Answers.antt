use Rattle.std.specs.Cmp.{nat_cmp_total}
use Rattle.foreign_table.proofs.Near.{gap_between, less_number}
use Rattle.foreign_table.proofs.back.is_group_between.Goals as goal

pub returns : goal.returns
returns c = λ t. gap_between nat_cmp_total c.args.back.now c.requires c.args.owner c.args.place c.if-place-back.false
    (λ l d. less_number _ c.args.owner (c.is_group_past.ensures c.if-not-is_group_past.false l d)) (λ l d. less_number c.args.owner _ (c.is_group_ahead.ensures t l d))
