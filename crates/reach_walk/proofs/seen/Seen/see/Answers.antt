use Rattle.std.proofs.Common.{◌≡◌, ◌∷◌, ◌++◌, [], Some, refl, sym, subst}
use Rattle.reach_walk.specs.Walk.{AreNoted}
use Rattle.reach_walk.proofs.Added.{Adds-known}
use Rattle.reach_walk.proofs.Seeing.{sees_new, notes_known, notes_new, was_seen, was_unseen}
use Rattle.reach_walk.proofs.seen.Seen.see.Goals as goal

pub returns-in_ok-push-in-Some-clause-seen : goal.returns-in_ok-push-in-Some-clause-seen
returns-in_ok-push-in-Some-clause-seen c =
    let x = c.args.thing.now in
    let old = c.args.self.now in
    let set = c.in-Some.noted in
    let more = c.insert.new.self in
    let done = c.in_ok-insert-in-Some.ensures in
    let noted : AreNoted (Some set) old.things = subst (λ n. AreNoted n old.things) c.in-Some.is c.requires.noted in
    let fresh = was_unseen set more old.things x noted _ done.added c.if-branch.true in
    let last : c.push.new.self ≡ old.things ++ x ∷ [] = c.in_ok-push-in-Some.ensures in
    sees_new old (record { things = c.push.new.self; noted = Some more; owner = old.owner }) x c.requires fresh last refl
    (subst (AreNoted (Some more)) (sym last) (notes_new set more old.things x noted done.updates))

pub returns-else-branch-clause-adds : goal.returns-else-branch-clause-adds
returns-else-branch-clause-adds c =
    let x = c.args.thing.now in
    let old = c.args.self.now in
    let set = c.in-Some.noted in
    let noted : AreNoted (Some set) old.things = subst (λ n. AreNoted n old.things) c.in-Some.is c.requires.noted in
    Adds-known x old.things (was_seen set c.insert.new.self old.things x noted _ c.in_ok-insert-in-Some.ensures.added c.if-branch.false)

pub returns-else-branch-clause-seen : goal.returns-else-branch-clause-seen
returns-else-branch-clause-seen c =
    let x = c.args.thing.now in
    let old = c.args.self.now in
    let set = c.in-Some.noted in
    let more = c.insert.new.self in
    let done = c.in_ok-insert-in-Some.ensures in
    let noted : AreNoted (Some set) old.things = subst (λ n. AreNoted n old.things) c.in-Some.is c.requires.noted in
    let there = was_seen set more old.things x noted _ done.added c.if-branch.false in
    record { once = c.requires.once; noted = notes_known set more old.things x noted done.updates there; owner = c.requires.owner }
