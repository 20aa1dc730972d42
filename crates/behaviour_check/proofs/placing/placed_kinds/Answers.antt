use Rattle.std.proofs.Common.{◌<◌, ◌∙◌, length, rules}
use Rattle.behaviour_check.proofs.PutBack.{put_back}
use Rattle.behaviour_check.proofs.placing.placed_kinds.Goals as goal

pub loop-i-preserved : goal.loop-i-preserved
loop-i-preserved c =
    let kinds = c.loop-i.kinds.items in
    let inside : c.loop-i.i < length kinds = search rules in
    put_back kinds c.loop-i.i c.index_mut.result.now c.index_mut-in-loop-i.result.now c.replace-behaviours.new.dest c.placed_behaviours.result inside
    c.index_mut.ensures.value c.index_mut-in-loop-i.ensures.value (c.placed_behaviours.ensures ∙ c.replace-behaviours.ensures.value)
    ∙ c.loop-i.invariant
