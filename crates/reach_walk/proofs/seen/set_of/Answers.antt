use Rattle.std.proofs.Common.{◌≡◌, ◌+◌, ◌++◌, ◌∷◌, [], Some, take, sym, ap, subst, ◌∙◌, arith}
use Rattle.std.proofs.lemmas.List.{take_all, take_more}
use Rattle.reach_walk.specs.Walk.{AreNoted}
use Rattle.reach_walk.proofs.Seeing.{notes_new}
use Rattle.reach_walk.proofs.seen.set_of.Goals as goal

pub loop-thing-preserved : goal.loop-thing-preserved
loop-thing-preserved c =
    let things = c.args.things.now in
    let i = c.loop-thing.thing-index in
    let t = c.thing-item.result in
    let now = c.insert.new.self in
    let more : take (i + 1) things ≡ take i things ++ t ∷ [] = take_more things i t (omega arith) ∙ ap (λ u. take i things ++ u ∷ []) (sym c.thing-item.is) in
    subst (AreNoted (Some now)) (sym more) (notes_new c.loop-thing.set now (take i things) t c.loop-thing.invariant c.in_ok-insert.ensures.updates)

pub returns : goal.returns
returns c =
    subst (AreNoted (Some c.loop-thing.set)) (take_all c.loop-thing.thing-index c.args.things.now (omega arith)) c.loop-thing.invariant
