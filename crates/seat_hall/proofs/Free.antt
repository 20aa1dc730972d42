-- Which events are enabled where the cells of claimed actors are away.
use Rattle.std.proofs.Common.{◌≡◌, ℕ, Bool, true, false, not, List, [], Option, Some, None, refl, sym, ap, ◌∙◌, is_some}
use Rattle.std.specs.Prelude.{if◌then◌else◌}
use Rattle.std.specs.Option.{option_map_or}
use Rattle.event_rule.specs.Events.{actor_of, is_of_detector}
use Rattle.event_rule.specs.Runs.{NotEnabled, Step}
use Rattle.machine_rules.specs.Next.{next}
use Rattle.machine_rules.specs.State.{State}
use Rattle.orca_parts.specs.Away.{is_out}
use Rattle.orca_core.specs.Firsts.{is_free, next_of_kind}
use Rattle.hall_rules.specs.Claims.{is_claimed}
use Rattle.seat_hall.specs.Log.{claim_in, listed}
use Rattle.seat_hall.proofs.Claims.{claimed_is}

-- what an event of this actor leads to, where these actors' cells are away, if it is of the kind
abbrev by_actor : (Option ℕ → Bool) → (ℕ → Bool) → Option ℕ → Step State → Step State
by_actor kind away who step =
    if kind who then (if option_map_or away who false then NotEnabled else step) else NotEnabled

module _ (out : List Bool) (claims : List (Option ℕ)) (away : (a : ℕ) → is_out out a ≡ is_some (claim_in claims a)) where
  -- with their cells away, none of the claimed need be set aside
  pub free_events : next_of_kind (is_free (λ _. false)) out ≡ next_of_kind (is_free (is_claimed (listed 0 claims))) []
  free_events i s e = by (actor_of e) (next s e) i
    where
      cases : (b : Bool) (step : Step State)
          → (if b then NotEnabled else step) ≡ (if not b then step else NotEnabled)
      cases true step = refl
      cases false step = refl

      by : (who : Option ℕ) (step : Step State)
          → by_actor (λ o. option_map_or (λ a. true) o false) (is_out out) who step
          ≡ by_actor (λ o. option_map_or (λ a. not (is_claimed (listed 0 claims) a)) o false) (λ a. false) who step
      by None step = refl
      by (Some a) step =
          ap (λ b. if b then NotEnabled else step) (away a)
          ∙ (cases (is_some (claim_in claims a)) step
          ∙ ap (λ b. if not b then step else NotEnabled) (sym (claimed_is claims a)))

-- the detector's events lead where they do, whatever cells are away
pub detector_events : (out : List Bool) → next_of_kind is_of_detector out ≡ next_of_kind is_of_detector []
detector_events out i s e = by (actor_of e) (next s e) i
  where
    by : (who : Option ℕ) (step : Step State)
        → by_actor (λ o. Rattle.std.specs.Prelude.is_none o) (is_out out) who step
        ≡ by_actor (λ o. Rattle.std.specs.Prelude.is_none o) (λ a. false) who step
    by None step = refl
    by (Some a) step = refl
