use Rattle.std.proofs.Common.{rules}
use Rattle.std.proofs.lemmas.List.Sorted.{answers_always}
use Rattle.orca_names.proofs.ThingOrder.{thing_exact, thing_total}
use Rattle.plain_list.proofs.Rising.{searched}
use Rattle.count_ledger.specs.Lines.{key_of}
use Rattle.count_ledger.proofs.Adding.{sorted_lines}
use Rattle.count_ledger.proofs.lines.place_of.Goals as goal

pub returns : goal.returns
returns c =
    let facts = c.binary_search_by_key.ensures in
    let by_key = facts.position (λ s. s.thing) (answers_always _ _ _ (λ f a r g called. search rules)) in
    let sums = c.args.sums.now in
    searched thing_total thing_exact key_of sums (sorted_lines sums c.requires)
    c.args.thing.now c.binary_search_by_key.result facts.bound by_key
