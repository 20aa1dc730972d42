use Rattle.std.proofs.Common.{refl, subst}
use Rattle.std.proofs.lemmas.Result.{on_ok_weaker}
use Rattle.orca_names.specs.declared.names.Thing.TheVariants.{Obj}
use Rattle.reach_walk.specs.Walk.{Notes}
use Rattle.reach_walk.proofs.Meeting.{met_again, met_owned}
use Rattle.reach_walk.proofs.met.Met.meet_placed.Goals as goal

pub returns-then-not-branch-clause-met : goal.returns-then-not-branch-clause-met
returns-then-not-branch-clause-met g c = λ things met owned.
    let place = g.P.Places.place c.args.places.now in
    let count = g.P.Places.count c.args.places.now in
    let notes = subst (Notes place count c.note_at.new.self things (Obj c.args.n)) c.if-not-branch.true (c.in_ok-note_at.ensures.notes things met.tells.told) in
    met_again place count c.args.self.now _ things c.args.n met refl refl notes.0 notes.1

pub returns-clause-met : goal.returns-clause-met
returns-clause-met g c = λ things met owned.
    let places = c.args.places.now in
    let place = g.P.Places.place places in
    let count = g.P.Places.count places in
    let notes = subst (Notes place count c.note_at.new.self things (Obj c.args.n)) c.if-not-branch.false (c.in_ok-note_at.ensures.notes things met.tells.told) in
    on_ok_weaker c.push_place.result
    (λ queue. met_owned place count (g.met.P.Places.in_order places) c.args.self.now _ things c.args.n c.args.at met c.requires.place queue refl notes owned)
    c.push_place.ensures
