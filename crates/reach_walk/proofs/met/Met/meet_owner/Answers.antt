use Rattle.std.proofs.Common.{refl}
use Rattle.orca_names.specs.declared.names.Thing.TheVariants.{Actor}
use Rattle.reach_walk.proofs.Meeting.{is_last, tells_last, tells_owner}
use Rattle.reach_walk.proofs.Noting.{tells_more}
use Rattle.reach_walk.proofs.met.Met.meet_owner.Goals as goal

pub returns-then-eq-clause-tells : goal.returns-then-eq-clause-tells
returns-then-eq-clause-tells g c = λ things tells.
    tells_last (g.P.Places.place c.args.places.now) (g.P.Places.count c.args.places.now) c.args.self.now things c.args.owner (is_last c.args.self.now.owner c.args.owner c.if-eq.ensures) tells

pub returns-clause-tells : goal.returns-clause-tells
returns-clause-tells g c = λ things tells.
    let place = g.P.Places.place c.args.places.now in
    let count = g.P.Places.count c.args.places.now in
    let now = c.note.new.self in
    tells_owner place count _ things c.args.owner refl
    (tells_more place count now things (Actor c.args.owner) c.in_ok-note.field-0 (c.in_ok-note.ensures.notes things tells.told))
