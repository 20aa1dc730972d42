use Rattle.std.proofs.Common.{◌+◌, Some, None, arith, set, sym, subst}
use Rattle.std.proofs.lemmas.Option.{slice_get_within}
use Rattle.block_table.specs.Blocks.{Blocks}
use Rattle.block_table.specs.Told.{AreTold, HasObject}
use Rattle.block_table.proofs.Filling.{count_within, given_count}
use Rattle.block_table.proofs.Telling.{told_set}
use Rattle.block_table.proofs.table.BlockTable.give_back.Goals as goal

pub overflow_add-self : goal.overflow_add-self
overflow_add-self c =
    let told = c.self.invariant in
    omega (arith, told.counted, told.few, count_within c.self.inside.objects.items)

pub invariant_of-self : goal.invariant_of-self
invariant_of-self c =
    let bs = c.self.inside.objects.items in
    let told = c.self.invariant in
    let has = subst (λ (b : Blocks). HasObject b c.args.block) (sym c.self.view_is) c.requires in
    subst (λ on. AreTold (set bs c.args.block None) on (c.self.inside.count + 1)) (sym c.put.ensures)
    (told_set bs c.self.inside.free c.self.inside.count (c.self.inside.count + 1) c.args.block None told
    (slice_get_within bs c.args.block (Some has.0) has.1) (omega (arith, told.counted, given_count bs c.args.block has.0 has.1)))
