use Rattle.std.proofs.Common.{rules}
use Rattle.std.proofs.lemmas.List.Sorted.{answers_always}
use Rattle.plain_list.proofs.Rising.{searched_pairs}
use Rattle.orca_names.proofs.ThingOrder.{thing_total, thing_exact}
use Rattle.foreign_table.proofs.back.place_among.Goals as goal

pub returns : goal.returns
returns c =
    let facts = c.binary_search_by_key.ensures in
    let by_key = facts.position (λ e. e.0) (answers_always _ _ _ (λ f a r g called. search rules)) in
    searched_pairs thing_total thing_exact c.args.things.now c.requires c.args.thing _ facts.bound by_key
