use Rattle.std.specs.Cmp.{nat_cmp_total}
use Rattle.plain_list.proofs.Rising.{at_place}
use Rattle.foreign_table.proofs.back.group_near.Goals as goal

pub returns-then-is_group : goal.returns-then-is_group
returns-then-is_group c =
    let here = c.is_group.ensures c.if-is_group.true in
    at_place nat_cmp_total c.args.back.now c.requires c.args.owner c.args.near here.0 here.1
