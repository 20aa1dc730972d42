use Rattle.std.proofs.Common.{◌≡◌, ◌↔◌, [], IsTrue, length, ap, subst, ◌∙◌, arith}
use Rattle.reach_walk.specs.Reach.{named_by}
use Rattle.reach_walk.proofs.flat.block_names_nothing.Goals as goal

pub returns-clause-nothing : goal.returns-clause-nothing
returns-clause-nothing g c = λ row lies.
    subst (λ vs. IsTrue c.names_nothing_within.result ↔ (named_by vs ≡ [])) (c.as_slice.ensures.value ∙ c.read-row.ensures.row row lies) c.names_nothing_within.ensures.nothing

pub returns-clause-all : goal.returns-clause-all
returns-clause-all g c = λ row lies is.
    omega (arith, c.names_nothing_within.ensures.all is, ap length (c.as_slice.ensures.value ∙ c.read-row.ensures.row row lies))

pub returns-clause-steps : goal.returns-clause-steps
returns-clause-steps g c =
    let looked = c.names_nothing_within.ensures in
    (looked.least, omega (arith, looked.most, c.as_slice.ensures.room.1))
