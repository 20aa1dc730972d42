use Rattle.std.proofs.Common.{◌≡◌, ◌<◌, ℕ, Option, None, Some, refl, arith}
use Rattle.seat_hall.specs.Log.{claim_in}
use Rattle.seat_hall.proofs.Counts.{claim_inside, none_listed}
use Rattle.seat_hall.proofs.hall.lowest_in.Goals as goal

pub returns-clause-none : goal.returns-clause-none
returns-clause-none c = none_listed 0 c.args.claims.now (λ a. none a (claim_in c.args.claims.now a) refl)
  where
    none : (a : ℕ) (o : Option ℕ) → claim_in c.args.claims.now a ≡ o → claim_in c.args.claims.now a ≡ None
    none a None is = is
    none a (Some pass) is =
        let within = claim_inside c.args.claims.now a pass is in
        let below : a < c.loop-a.a = omega (arith, within, c.loop-a-test.false) in absurd (c.loop-a.invariant a pass below is)
