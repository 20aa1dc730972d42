use Rattle.std.proofs.Common.{◌≡◌, ℕ, None, ap, ◌∙◌}
use Rattle.hall_rules.proofs.Keeping.{are_parts}
use Rattle.seat_hall.specs.Halls.{HallView}
use Rattle.seat_hall.specs.Log.{claim_in, listed, plain}
use Rattle.seat_hall.proofs.Counts.{none_out_listed}
use Rattle.seat_hall.proofs.Kept.{free_is_home}
use Rattle.seat_hall.proofs.hall.Hall.into_parts.Goals as goal

pub returns : goal.returns
returns c =
    let s = c.self.inside in
    let kept = c.self.invariant in
    let free : (a : ℕ) → claim_in s.claims.items a ≡ None = none_out_listed 0 s.claims.items
    (ap (λ (h : HallView). listed 0 h.logged.claims) c.self.view_is ∙ c.requires.none) in record {
      whole = are_parts s.code.now s.budget s.orca s.book kept.one
          (λ a. free_is_home s.code.now s.budget s.orca s.book s.claims.items s.rooms kept a (free a))
          (listed 0 s.claims.items) s.stopped _ (ap (λ (h : HallView). plain h.logged) c.self.view_is);
      blockless = kept.none;
    }
