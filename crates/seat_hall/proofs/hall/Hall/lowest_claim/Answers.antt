use Rattle.std.proofs.Common.{◌≤◌, List, Option, ℕ, length, sym, subst}
use Rattle.orca_names.specs.declared.limits.TheConstants.{ACTORS_LIMIT}
use Rattle.seat_hall.proofs.Kept.{few_claims}
use Rattle.seat_hall.proofs.hall.Hall.lowest_claim.Goals as goal

pub lowest_in-requires : goal.lowest_in-requires
lowest_in-requires c =
    let s = c.self.inside in
    subst (λ (claims : List (Option ℕ)). length claims ≤ ACTORS_LIMIT) (sym c.deref.ensures.value)
    (few_claims s.code.now s.budget s.orca s.book s.claims.items s.rooms c.self.invariant)
