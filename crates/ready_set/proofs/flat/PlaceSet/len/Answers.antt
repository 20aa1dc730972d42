use Rattle.std.proofs.Common.{◌∷◌, length, ap, arith}
use Rattle.ready_set.proofs.Words.{length-places}
use Rattle.ready_set.proofs.flat.PlaceSet.len.Goals as goal

pub returns : goal.returns
returns c = omega (arith, length-places (c.self.inside.first ∷ c.self.inside.rest.items), ap length c.self.view_is)
