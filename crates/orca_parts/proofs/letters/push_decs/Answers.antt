use Rattle.std.proofs.Common.{◌≡◌, List, [], ap, arith, rules, subst, sym, ℕ}
use Rattle.std.proofs.lemmas.Grind.{common_steps}
use Rattle.std.specs.Vec.Iter.{into_iter_items}
use Rattle.letter_kinds.specs.Counting.{Amount}
use Rattle.letter_kinds.specs.Letters.{Dec}
use Rattle.actor_cell.specs.Outs.{decs_to}
use Rattle.actor_cell.specs.Pushing.{push_all}
use Rattle.actor_table.specs.Slots.{actors_of}
use Rattle.orca_parts.specs.Letters.{FitLetters}
use Rattle.orca_parts.specs.Touched.{receivers}
use Rattle.orca_parts.proofs.Posting.{first_fits}
use Rattle.orca_parts.proofs.Pushed.{Pushes, pushes_all, pushes_none, pushes_one}
use Rattle.orca_parts.proofs.letters.push_decs.Goals as goal

pub post-requires : goal.post-requires
post-requires c =
    first_fits c.in-Some.group.0 (receivers (into_iter_items c.next.new.self)) c.loop-group.table.slots
    (subst (λ gs. FitLetters (receivers gs) c.loop-group.table.slots) c.in-Some.ensures.steps.0 c.loop-group.invariant.pushes.fits)

pub loop-group-init : goal.loop-group-init
loop-group-init c =
    let groups = c.args.groups.items in
    let slots = c.args.table.now.slots in
    record {
      next = tt;
      finite = tt;
      pushes = subst (λ (gs : List (ℕ × List Amount)). Pushes (receivers gs) (push_all (decs_to gs)) (push_all (decs_to groups) (actors_of slots)) slots slots _)
          (search rules) (pushes_none (receivers groups) (push_all (decs_to groups)) slots c.requires);
    }

pub loop-group-preserved : goal.loop-group-preserved
loop-group-preserved c =
    let rest = into_iter_items c.next.new.self in
    let start = c.args.table.now.slots in
    let old = c.loop-group.table.slots in
    let all = push_all (decs_to c.args.groups.items) (actors_of start) in
    record {
      next = tt;
      finite = tt;
      pushes = subst (Pushes (receivers rest) (push_all (decs_to rest)) all start c.post.new.table.slots) (sym c.lower-lowest.ensures)
          (pushes_one c.in-Some.group.0 (Dec c.in-Some.group.1) (receivers rest) (push_all (decs_to rest)) all start old c.post.new.table.slots c.loop-group.lowest c.post.result
          (subst (λ (gs : List (ℕ × List Amount)). Pushes (receivers gs) (push_all (decs_to gs)) all start old c.loop-group.lowest) c.in-Some.ensures.steps.0 c.loop-group.invariant.pushes)
          c.post.ensures.posts c.post.ensures.room);
    }

pub returns : goal.returns
returns c =
    let left = into_iter_items c.loop-group.group-iterator in
    let now = c.loop-group.table.slots in
    let none : left ≡ [] = grind (arith, common_steps) in
    pushes_all (receivers left) (push_all (decs_to left)) (push_all (decs_to c.args.groups.items)) c.args.table.now.slots now c.loop-group.lowest
    (ap (λ (gs : List (ℕ × List Amount)). push_all (decs_to gs) (actors_of now)) none) c.loop-group.invariant.pushes
