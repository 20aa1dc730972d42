use Rattle.std.proofs.Common.{false, not, sym, ◌∙◌}
use Rattle.std.proofs.lemmas.Option.{get_or_from_slice_get}
use Rattle.reach_walk.proofs.Noting.{notes_other, notes_placed}
use Rattle.reach_walk.proofs.Sets.{inserted, flipped}
use Rattle.reach_walk.proofs.noted.Noted.note_at.Goals as goal

pub returns-in-Some-clause-notes : goal.returns-in-Some-clause-notes
returns-in-Some-clause-notes g c = λ met told.
    let places = c.args.places.now in
    let old = c.args.self.now in
    let p = c.in-Some.at in
    notes_placed (g.P.Places.place places) (g.P.Places.count places) old met told c.args.thing.now (g.met.P.Places.below places) (g.met.P.Places.in_order places) p c.insert.new.self
    (sym c.requires.place ∙ c.in-Some.is) c.insert.ensures.set c.insert.result (get_or_from_slice_get old.bits p (not c.insert.result) false c.insert.ensures.was)

pub returns-in_ok-insert-in-None-clause-notes : goal.returns-in_ok-insert-in-None-clause-notes
returns-in_ok-insert-in-None-clause-notes g c = λ met told.
    let places = c.args.places.now in
    let old = c.args.self.now in
    let x = c.args.thing.now in
    let more = c.insert-in-None.new.self in
    notes_other (g.P.Places.place places) (g.P.Places.count places) old met told x (sym c.requires.place ∙ c.in-None.is) more
    (inserted old.others more x c.in_ok-insert-in-None.ensures.updates) c.in_ok-insert-in-None.field-0 (flipped _ _ c.in_ok-insert-in-None.ensures.added)
