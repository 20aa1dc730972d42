use Rattle.std.proofs.Common.{ap, ◌∙◌, arith, set, length}
use Rattle.orca_names.specs.Places.{length-take-used}
use Rattle.orca_names.proofs.PlacesLemmas.{set_uses_places, take-set}
use Rattle.orca_names.proofs.row.Args.set.Goals as goal

pub invariant_of-self : goal.invariant_of-self
invariant_of-self c =
    let s = c.self.inside in
    set_uses_places s.used s.places c.args.i c.args.value c.self.invariant
    (omega (arith, length-take-used s.used s.places c.self.invariant, ap length c.self.view_is))

pub returns : goal.returns
returns c = take-set c.self.inside.used c.self.inside.places c.args.i c.args.value ∙ ap (λ xs. set xs c.args.i c.args.value) c.self.view_is
