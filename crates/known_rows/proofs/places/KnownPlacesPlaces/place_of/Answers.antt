use Rattle.std.proofs.Common.{◌≡◌, sym, ap, ◌∙◌}
use Rattle.std.proofs.lemmas.Bool.{eqb-true, not-false}
use Rattle.orca_names.specs.Names.{owner_of}
use Rattle.orca_names.specs.declared.names.Thing.TheVariants.{Actor}
use Rattle.known_rows.specs.Places.{place_in}
use Rattle.known_rows.proofs.Placed.{place_of_owner}
use Rattle.known_rows.proofs.places.KnownPlacesPlaces.place_of.Goals as goal

pub returns-in-Actor : goal.returns-in-Actor
returns-in-Actor c =
    let s = c.args.self.now in
    let same : c.owner.result ≡ c.owner-owner.result = eqb-true _ _ (not-false _ (sym c.if-ne.ensures)) in
    let own : c.in-Actor.field-0 ≡ s.rows.heap.now.owner = sym (ap owner_of c.in-Actor.is) ∙ sym c.owner.ensures ∙ same ∙ c.owner-owner.ensures in
    sym (ap (place_in s.rows.heap.now s.rows.foreign.now) (c.in-Actor.is ∙ ap Actor own) ∙ place_of_owner s.rows.heap.now s.rows.foreign.now s.first s.end s.span)
