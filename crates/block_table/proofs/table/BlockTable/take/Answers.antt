use Rattle.std.proofs.Common.{◌-◌, ◌<◌, ◌∙◌, ◌∷◌, [], Some, None, arith, set, ap, sym, subst}
use Rattle.std.proofs.lemmas.Option.{slice_get_within}
use Rattle.block_table.specs.Blocks.{Blocks, count_free, fill}
use Rattle.block_table.specs.Told.{AreTold, IsLowestFree}
use Rattle.block_table.proofs.Filling.{fill_lowest, taken_count}
use Rattle.block_table.proofs.Telling.{found_lowest, some_found, told_set}
use Rattle.block_table.proofs.table.BlockTable.take.Goals as goal

pub unreachable-requires : goal.unreachable-requires
unreachable-requires c =
    let bs = c.self.inside.objects.items in
    let some = subst (λ (b : Blocks). 0 < count_free b) (sym c.self.view_is) c.requires in
    some_found bs c.self.inside.free c.self.inside.count c.self.invariant some (sym c.first.ensures ∙ c.in_default.is)

pub index_mut-requires : goal.index_mut-requires
index_mut-requires c =
    let bs = c.self.inside.objects.items in
    let k = c.in-Some.block in
    let is = found_lowest bs c.self.inside.free c.self.inside.count k c.self.invariant (sym c.first.ensures ∙ c.in-Some.is) in
    omega (arith, slice_get_within bs k None is.free, c.self.inside.objects.ok.0)

pub invariant_of-self : goal.invariant_of-self
invariant_of-self c =
    let bs = c.self.inside.objects.items in
    let k = c.in-Some.block in
    let told = c.self.invariant in
    let is = found_lowest bs c.self.inside.free c.self.inside.count k told (sym c.first.ensures ∙ c.in-Some.is) in
    subst (λ on. AreTold (set bs k (Some c.args.n)) on (c.self.inside.count - 1)) (sym c.put.ensures)
    (told_set bs c.self.inside.free c.self.inside.count (c.self.inside.count - 1) k (Some c.args.n) told
    (slice_get_within bs k None is.free) (omega (arith, told.counted, taken_count bs k c.args.n is.free)))

pub returns-clause-lowest : goal.returns-clause-lowest
returns-clause-lowest c =
    let bs = c.self.inside.objects.items in
    subst (λ (b : Blocks). IsLowestFree b c.in-Some.block) c.self.view_is
    (found_lowest bs c.self.inside.free c.self.inside.count c.in-Some.block c.self.invariant (sym c.first.ensures ∙ c.in-Some.is))

pub returns-clause-blocks : goal.returns-clause-blocks
returns-clause-blocks c =
    let bs = c.self.inside.objects.items in
    let k = c.in-Some.block in
    let is = found_lowest bs c.self.inside.free c.self.inside.count k c.self.invariant (sym c.first.ensures ∙ c.in-Some.is) in
    sym (fill_lowest c.args.n bs k is) ∙ ap (fill (c.args.n ∷ [])) c.self.view_is
