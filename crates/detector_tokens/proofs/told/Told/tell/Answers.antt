use Rattle.std.proofs.Common.{arith, sym, ◌∙◌, ◌<◌, length-set, subst}
use Rattle.detector_tokens.proofs.Telling.{actor_among, at_value, told_more, told_others}
use Rattle.detector_tokens.proofs.told.Told.tell.Goals as goal

pub index_mut-requires : goal.index_mut-requires
index_mut-requires c =
    let is = at_value c.args.actors.now c.loop-actor.actor-index c.actor-item.result c.actor.inside.0 c.actor.view_is c.actor-item.is in
    let within = c.requires.room c.actor.inside.0 (actor_among c.args.actors.now c.loop-actor.actor-index c.actor.inside.0 c.loop-actor-test.true is) in
    let long = c.loop-actor.invariant.long in
    omega arith

pub loop-actor-preserved : goal.loop-actor-preserved
loop-actor-preserved c =
    let before = c.loop-actor.invariant in
    let told = c.loop-actor.self-inside.numbers.items in
    let is = at_value c.args.actors.now c.loop-actor.actor-index c.actor-item.result c.actor.inside.0 c.actor.view_is c.actor-item.is in
    let within = c.requires.room c.actor.inside.0 (actor_among c.args.actors.now c.loop-actor.actor-index c.actor.inside.0 c.loop-actor-test.true is) in
    record {
      long = length-set told c.actor.inside.0 c.args.number ∙ before.long;
      told = told_more told c.args.actors.now c.loop-actor.actor-index c.actor.inside.0 c.args.number c.loop-actor-test.true is
          (subst (λ n. c.actor.inside.0 < n) (sym before.long) within) before.told;
      others = λ a out. told_others told c.args.actors.now c.loop-actor.actor-index c.actor.inside.0 c.args.number c.loop-actor-test.true is a out ∙ before.others a out;
    }
