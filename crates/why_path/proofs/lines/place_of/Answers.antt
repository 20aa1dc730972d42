use Rattle.std.proofs.Common.{rules}
use Rattle.std.proofs.lemmas.List.Sorted.{answers_always}
use Rattle.orca_names.proofs.ThingOrder.{thing_exact, thing_total}
use Rattle.plain_list.proofs.Rising.{searched}
use Rattle.why_path.specs.Lines.{key_of}
use Rattle.why_path.proofs.Finding.{sorted_lines}
use Rattle.why_path.proofs.lines.place_of.Goals as goal

pub returns : goal.returns
returns c =
    let facts = c.binary_search_by_key.ensures in
    let by_key = facts.position (λ r. r.thing) (answers_always _ _ _ (λ f a r g called. search rules)) in
    let reasons = c.args.reasons.now in
    searched thing_total thing_exact key_of reasons (sorted_lines reasons c.requires)
    c.args.thing.now c.binary_search_by_key.result facts.bound by_key
