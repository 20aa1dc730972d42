use Rattle.std.proofs.Common.{◌∷◌, [], take, sym, subst, arith}
use Rattle.reach_walk.specs.Reach.{named_by}
use Rattle.reach_walk.specs.Walk.{Adds}
use Rattle.reach_walk.proofs.Added.{Adds-append}
use Rattle.reach_walk.proofs.Named.{named_by-push}
use Rattle.reach_walk.proofs.look.look_all.Goals as goal

pub loop-value-preserved : goal.loop-value-preserved
loop-value-preserved g c =
    let values = c.args.values.now in
    let i = c.loop-value.value-index in
    let v = c.value-item.result in
    let first = c.args.seen.now.things in
    let now = c.look.new.seen.things in
    record {
      adds = subst (λ ts. Adds ts first now) (sym (named_by-push values i v (omega arith) c.value-item.is))
          (Adds-append (named_by (take i values)) (named_by (v ∷ [])) first c.loop-value.seen.things now c.loop-value.invariant.adds c.in_ok-look.ensures.adds);
      seen = c.in_ok-look.ensures.seen;
      steps = omega (arith, c.look.ensures.step);
    }
