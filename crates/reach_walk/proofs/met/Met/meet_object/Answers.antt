use Rattle.std.proofs.Common.{◌∷◌, ◌++◌, [], refl, ap, subst, ◌∙◌}
use Rattle.std.proofs.lemmas.Result.{on_ok_weaker}
use Rattle.orca_names.specs.declared.names.Thing.TheVariants.{Obj}
use Rattle.reach_walk.specs.Walk.{Notes}
use Rattle.reach_walk.proofs.Meeting.{met_again, met_new, tells_before, whatever, Grows-none, Grows-by}
use Rattle.reach_walk.proofs.met.Met.meet_object.Goals as goal

pub returns-then-not-branch-clause-met : goal.returns-then-not-branch-clause-met
returns-then-not-branch-clause-met g c = λ things met.
    let place = g.P.Places.place c.args.places.now in
    let count = g.P.Places.count c.args.places.now in
    let notes = subst (Notes place count c.note_at.new.self things (Obj c.args.n)) c.if-not-branch.true (c.in_ok-note_at.ensures.notes things met.tells.told) in
    met_again place count c.args.self.now _ things c.args.n met refl refl notes.0 notes.1

pub returns-then-not-branch-clause-queue : goal.returns-then-not-branch-clause-queue
returns-then-not-branch-clause-queue g c = Grows-none c.args.self.now.queue.items

pub returns-clause-met : goal.returns-clause-met
returns-clause-met g c = λ things met.
    let places = c.args.places.now in
    let place = g.P.Places.place places in
    let count = g.P.Places.count places in
    let old = c.args.self.now in
    let x = Obj c.args.n in
    let notes = subst (Notes place count c.note_at.new.self things x) c.if-not-branch.false (c.in_ok-note_at.ensures.notes things met.tells.told) in
    let noted = tells_before place count old _ things x met.tells refl notes.0 in
    on_ok_weaker c.meet_owner.result
    (λ tells. met_new place count (g.met.P.Places.in_order places) old c.meet_owner.new.self things c.args.n c.place_of-at.result met c.place_of-at.ensures
    (ap (λ q. q.items) c.meet_owner.ensures.queue ∙ c.in_ok-push_place.ensures) notes.1 tells)
    (c.meet_owner.ensures.tells (things ++ x ∷ []) noted)

pub returns-clause-queue : goal.returns-clause-queue
returns-clause-queue g c =
    whatever c.meet_owner.result
    (Grows-by c.args.self.now.queue.items c.meet_owner.new.self.queue.items c.place_of-at.result (ap (λ q. q.items) c.meet_owner.ensures.queue ∙ c.in_ok-push_place.ensures))
