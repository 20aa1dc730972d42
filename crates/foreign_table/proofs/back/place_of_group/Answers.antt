use Rattle.std.proofs.Common.{rules}
use Rattle.std.proofs.lemmas.List.Sorted.{answers_always}
use Rattle.std.specs.Cmp.{nat_cmp_total}
use Rattle.std.specs.FinMap.{nat_cmp-IsAntisymmetric}
use Rattle.plain_list.proofs.Rising.{searched_pairs}
use Rattle.foreign_table.proofs.back.place_of_group.Goals as goal

pub returns : goal.returns
returns c =
    let facts = c.binary_search_by_key.ensures in
    let by_key = facts.position (λ g. g.0) (answers_always _ _ _ (λ f a r g called. search rules)) in
    searched_pairs nat_cmp_total nat_cmp-IsAntisymmetric c.args.back.now c.requires c.args.owner _ facts.bound by_key
