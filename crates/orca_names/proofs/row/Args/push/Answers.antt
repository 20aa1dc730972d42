use Rattle.std.proofs.Common.{ap, ◌∙◌, ◌<◌, ◌++◌, ◌∷◌, [], arith, length}
use Rattle.std.proofs.lemmas.List.{take_more_set}
use Rattle.orca_names.specs.Places.{length-take-used}
use Rattle.orca_names.proofs.PlacesLemmas.{push_uses_places}
use Rattle.orca_names.proofs.row.Args.push.Goals as goal

pub invariant_of-self : goal.invariant_of-self
invariant_of-self c =
    let s = c.self.inside in
    push_uses_places s.used s.places c.args.value c.self.invariant
    (omega (arith, length-take-used s.used s.places c.self.invariant, ap length c.self.view_is))

pub returns : goal.returns
returns c =
    let s = c.self.inside in
    let room : s.used < 8 = omega (arith, length-take-used s.used s.places c.self.invariant, ap length c.self.view_is) in
    take_more_set s.places s.used c.args.value (omega (arith, c.self.invariant.eight))
    ∙ ap (λ xs. xs ++ c.args.value ∷ []) c.self.view_is
