use Rattle.std.proofs.Common.{◌∷◌, suc, length, subst, sym, ap, ◌∙◌, arith}
use Rattle.std.proofs.lemmas.List.{length-replicate}
use Rattle.ready_set.specs.Levels.{places}
use Rattle.ready_set.specs.Next.{AreOff}
use Rattle.ready_set.proofs.Words.{length-places}
use Rattle.ready_set.proofs.NextBits.{zeros-off}
use Rattle.ready_set.proofs.flat.PlaceSet.with_places.Goals as goal

pub returns-clause-off : goal.returns-clause-off
returns-clause-off c =
    subst (λ rest. AreOff (places (0 ∷ rest)) 0 (length (places (0 ∷ rest)))) (sym (c.in_ok-rest.ensures.items_if_clones_equal (λ y e. e))) (zeros-off (suc c.saturating_sub.result))

pub returns-clause-room : goal.returns-clause-room
returns-clause-room c =
    let rest = c.in_ok-rest.rest.items in
    let long = length-places (0 ∷ rest) in
    let many = ap length (c.in_ok-rest.ensures.items_if_clones_equal (λ y e. e)) ∙ length-replicate c.saturating_sub.result 0 in
    omega (arith, long, many, c.div_ceil.ensures, c.saturating_sub.ensures)
